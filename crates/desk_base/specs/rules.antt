-- The rules that rows, trees and tables keep, and the limits in them.
pub mod Limits
pub mod TableLimits
pub mod Rules
pub mod Fields
pub mod TreeRules
pub mod Sound
