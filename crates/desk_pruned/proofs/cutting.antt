-- What a search leaves at a place: picks in order, cuts, and the way from one live position to the next.
pub mod Picks
pub mod Cuts
pub mod NextPicks
pub mod Climbing
pub mod Standing
