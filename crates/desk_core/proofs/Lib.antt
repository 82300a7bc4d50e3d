-- Lemmas of the scheduler.
pub mod GroupsThere
pub mod Counters
pub mod GroupCounts
pub mod Booked
pub mod Judged
pub mod Revisions
pub mod Unrefused
pub mod Outcomes
pub mod Promised
