-- Lemmas of changes: what they meet, and the tables after them.
pub mod Ready
pub mod Options
pub mod EarlyParts
pub mod Picking
pub mod Naming
pub mod Members
pub mod Named
pub mod Citers
pub mod Finding
-- Tables after rows are taken out, and the acts that take them out.
pub mod removed
-- Tables after a row is put, where bookings may not fit.
pub mod WellFormedPuts
