pub mod CalendarDays
pub mod DateTexts
pub mod MomentTexts
pub mod ShiftLemmas
mod WorkedDays
