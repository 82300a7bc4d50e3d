pub mod Intersecting
pub mod Lengthening
pub mod PieceLemmas
pub mod RunLemmas
pub mod Sizes
pub mod StretchLemmas
pub mod TimelineLemmas
pub mod Walks
