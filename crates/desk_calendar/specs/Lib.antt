-- The definitions that contracts cite.
pub mod Locals
pub mod Clocks
pub mod Offs
