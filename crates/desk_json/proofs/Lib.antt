-- Numbers and cursors as texts.
mod DecimalLemmas
mod PieceLemmas
mod CursorLemmas
mod CursorTexts
-- Texts of answers.
mod Runs
mod Floats
mod PageTexts
-- What bodies are read as.
pub mod MomentReadings
mod EachRead
mod NamesAmong
mod NamesBehind
mod TableRows
mod RowKeys
pub mod DayReadings
mod TreeSteps
mod ParsedBodies
pub mod AskedForms
