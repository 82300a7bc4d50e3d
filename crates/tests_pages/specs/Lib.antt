-- What the tests say of the pages that they ask for.
pub mod Counts
