pub mod Counts
pub mod Memory
pub mod Moves
pub mod Told
