-- The definitions, computed at worked cases.
pub mod Parts
pub mod Patterns
mod Listing
mod Pages
mod Intervals
mod Offsets
mod Bookings
mod Verdicts
mod Choice
mod Units
mod Nested
mod Crews
mod Pools
mod Capacities
mod Zones
mod Puts
mod Refusals
