-- Acts that put a row: what they meet, and what they leave.
pub mod Overlaps
pub mod Suits
pub mod KindPuts
pub mod FieldPuts
pub mod SoundPuts
pub mod RoomPuts
pub mod ActPuts
pub mod PutRefusals
pub mod AcceptedPuts
