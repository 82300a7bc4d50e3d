-- The definitions that contracts cite.
pub mod Broken
pub mod Grid
pub mod Live
