-- That the tables of the tests are well formed, and that they have no other resources than theirs.
mod Everyone
mod Formed
mod Teamed
