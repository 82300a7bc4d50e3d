-- What follows from sessions, for whoever holds conversations.
pub mod Carried
pub mod Completeness
pub mod Nothing
-- The steps of a conversation.
mod HearingSteps
mod SessionSteps
