-- The definitions that contracts of this crate cite, each in the module of its subject.
pub mod Values
pub mod Rows
pub mod Bookings
pub mod Callers
pub mod Leaves
pub mod Groups
pub mod Kept
pub mod TypedRows
pub mod TypedGroups
pub mod Typed
pub mod Rules
pub mod Stacked
pub mod Versions
pub mod Stored
