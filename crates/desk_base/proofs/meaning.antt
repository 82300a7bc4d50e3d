-- What bookings weigh and whether they fit, and the shapes of trees.
pub mod Sums
pub mod Fewer
pub mod Rooms
pub mod Pools
pub mod Clashes
pub mod Patterns
pub mod Shapes
pub mod Unders
pub mod Efforts
pub mod SoundTrees
pub mod Chosen
