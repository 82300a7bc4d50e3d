-- Groups that are booked, moved and cancelled: lists, bookings, tables and refusals.
pub mod Rebooked
pub mod NewBookings
pub mod BookedRows
pub mod SoundBookings
pub mod BookRefusals
pub mod FeasibleBookings
pub mod AcceptedBookings
