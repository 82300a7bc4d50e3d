-- Each kind of step keeps the rule of the lock.
pub mod Changes
pub mod Looks
pub mod Draws
pub mod Takes
pub mod Raises
pub mod Settles
pub mod PassesOn
pub mod Splits
pub mod Joins
pub mod Opens
pub mod Closes
