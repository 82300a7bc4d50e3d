-- Tables without the row of a key: their rows, what keeps them sound, and the acts that take a row out.
pub mod RowRules
pub mod Without
pub mod FieldsWithout
pub mod SoundWithout
pub mod Noted
pub mod GroupNames
pub mod Refusals
pub mod Rooms
pub mod Removals
pub mod Drops
