-- The definitions that contracts of this crate cite, each in the module of its subject.
pub mod Words
pub mod Turns
pub mod Shown
pub mod Runs
