-- What a search lists: the order of its rows, which are feasible, and its pages.
pub mod Order
pub mod OrderLaws
pub mod Listing
pub mod Positions
pub mod Page
pub mod Verdicts
