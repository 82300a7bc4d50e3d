-- The definitions that contracts cite.
pub mod Memberships
pub mod Spans
pub mod Pieces
pub mod Parts
pub mod Counts
