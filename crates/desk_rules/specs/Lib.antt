-- The definitions that contracts cite.
pub mod Missing
pub mod Broken
pub mod Formed
pub mod Leaves
pub mod Own
