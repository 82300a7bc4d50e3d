-- Searches and verdicts.
pub mod Prefixes
pub mod Due
pub mod Pages
pub mod Passed
pub mod BeginsLemmas
pub mod VerdictLemmas
