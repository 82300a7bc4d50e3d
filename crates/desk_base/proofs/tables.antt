-- Tables: their keys, their rows with one more or fewer, and what keeps them sound.
pub mod KeyParts
pub mod KeyRises
pub mod KeyOrder
pub mod WithOne
pub mod AnyRows
pub mod RowPuts
pub mod TakenRows
pub mod TakenBack
pub mod Sounds
pub mod TrialSound
pub mod Rising
