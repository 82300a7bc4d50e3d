-- The definitions that contracts of this crate cite, each in the module of its subject.
pub mod Ends
pub mod Hearing
pub mod Rounds
pub mod Sessions
