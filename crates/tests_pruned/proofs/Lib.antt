-- Lemmas on lists of positions.
pub mod Among
pub mod Sounding
