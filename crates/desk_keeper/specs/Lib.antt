pub mod Held
pub mod Keepable
pub mod Kept
pub mod Loads
pub mod Memory
pub mod Stock
