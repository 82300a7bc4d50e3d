-- The definitions that contracts cite, each in the module of its subject.
pub mod rows
pub mod meaning
pub mod search
pub mod rules
pub mod asked
pub mod changes
