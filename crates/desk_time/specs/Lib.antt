pub mod Limits
pub mod Reads
pub mod Digits
pub mod Dates
pub mod Moments
pub mod Clocks
pub mod Zones
