-- The definitions that contracts of this crate cite, each in the module of its subject.
pub mod Books
pub mod Built
pub mod Answering
pub mod Effects
pub mod Entered
pub mod Journaled
pub mod Promises
