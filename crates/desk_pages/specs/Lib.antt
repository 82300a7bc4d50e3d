-- The definitions that contracts cite.
pub mod Rooms
pub mod Tests
pub mod Places
pub mod Spaces
