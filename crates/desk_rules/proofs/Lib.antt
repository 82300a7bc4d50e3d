-- The first key that is not there, over lists that are joined.
pub mod Missing
-- Tests of several parts, over lists.
pub mod Tests
-- The first that is found in a list is found in its first part, or else behind it.
pub mod FirstOfAll
-- Rows of tables that share a kind of row.
pub mod RowLemmas
-- The first row that passes a test, by its key, and the row at a place.
pub mod Firsts
-- Keys that are not above the one before them, and the least of them.
pub mod Unordered
-- What the least broken key of a table says of a rule.
pub mod Keeping
-- The tables one by one.
pub mod Walk
-- Rules that are kept in turn.
pub mod WellFormed
