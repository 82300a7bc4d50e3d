-- The definitions that contracts of this crate cite, each in the module of its subject.
pub mod Routes
pub mod Parameters
pub mod Queries
pub mod Requesting
pub mod Replies
pub mod Exchanges
