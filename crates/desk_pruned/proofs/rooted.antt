-- The rows of the first picks: what is known of their starts, and what they still owe.
pub mod RowLists
pub mod LeastRoots
pub mod KnownStarts
