-- The definitions that contracts cite.
pub mod Ways
pub mod Cuts
pub mod Starts
pub mod Costs
pub mod Trails
pub mod Counts
