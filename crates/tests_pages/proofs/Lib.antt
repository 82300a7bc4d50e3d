-- That the tables of the tests have no other resources than theirs, and how many steps a page takes.
mod Everyone
mod Counted
