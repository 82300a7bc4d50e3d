-- Walks over the rows of a router, and the routes of paths.
mod Walks
mod Paths
-- Values, queries and requests.
mod ValueLemmas
mod RequestLemmas
mod ReadingLemmas
mod TurnLemmas
pub mod CarriedTurns
