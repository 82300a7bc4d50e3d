-- The rows of a schedule: as contracts see them, their keys, what they cite, how they are found, and the trial tables.
pub mod Types
pub mod Keys
pub mod Rows
pub mod Trial
pub mod Lookups
pub mod Ranges
