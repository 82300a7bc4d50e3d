-- What the tests say of the tables that they make.
pub mod Placed
pub mod Teams
