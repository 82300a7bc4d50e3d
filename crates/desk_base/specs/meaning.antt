-- What a schedule means: local time, capacity, what bookings weigh, who may serve a leaf, and which leaves are chosen together.
pub mod Time
pub mod Capacity
pub mod Load
pub mod Efforts
pub mod Eligible
pub mod Trees
pub mod Picks
