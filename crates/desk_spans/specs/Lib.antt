pub mod Laid
pub mod Minutes
pub mod Pieces
pub mod Runs
pub mod Timeline
