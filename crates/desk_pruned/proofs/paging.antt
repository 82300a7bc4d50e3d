-- What a page has passed, which of it is due, and how many steps it took.
pub mod Successors
pub mod Passing
pub mod Showing
pub mod Bounds
