-- Commands that requests ask for, and statuses.
mod Served
mod Statuses
-- Conversations.
pub mod StoreSound
pub mod Revisions
pub mod ShownLemmas
pub mod ReadPages
