-- Lemmas on what a search leaves, on its first picks, and on its pages.
pub mod cutting
pub mod rooted
pub mod paging
