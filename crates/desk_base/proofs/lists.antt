-- Lists: membership, tests, places, orders and filters.
pub mod Members
pub mod Tests
pub mod Places
pub mod Orders
pub mod Filtered
pub mod Cuts
pub mod Bounds
