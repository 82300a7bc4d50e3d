-- The definitions that contracts cite.
pub mod Eligibilities
pub mod Trees
pub mod Bits
pub mod Judging
pub mod Covers
pub mod Crews
pub mod Marks
pub mod Candidates
pub mod Cases
pub mod Starts
