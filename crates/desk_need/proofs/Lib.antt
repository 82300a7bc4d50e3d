-- Lists of which some pass a test.
pub mod Finds
-- Trees: patterns that bits begin, what a walk over the nodes says of them, and picks without a pattern.
pub mod Begins
pub mod Judged
pub mod SomePatterns
pub mod BadShapes
-- Part-of-same: spans that cover a time, and crews.
pub mod CoverLemmas
pub mod CrewLemmas
pub mod OtherNodes
-- Who serves each leaf.
pub mod CandidateLemmas
-- Starts that keep the rule of windows.
pub mod StartLemmas
