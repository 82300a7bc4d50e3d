-- The definitions that contracts cite.
pub mod Listed
pub mod Sound
