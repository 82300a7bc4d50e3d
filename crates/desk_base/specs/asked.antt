-- What commands come to: the step, its refusals in order, what an act does, and journals.
pub mod Callers
pub mod Groups
pub mod Acts
pub mod Refusing
pub mod Summaries
pub mod Steps
pub mod Histories
