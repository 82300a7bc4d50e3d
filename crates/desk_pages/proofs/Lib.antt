-- The list of the live positions of a group.
pub mod Fitting
pub mod Tests
pub mod Places
pub mod Lives
-- What a search goes over.
pub mod Sounding
pub mod Paged
