-- The definitions that contracts cite.
pub mod Served
pub mod Citing
