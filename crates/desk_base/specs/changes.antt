-- Tables that change.
pub mod Changes
pub mod Formers
pub mod Lacking
pub mod OpenTables
pub mod Prepared
pub mod Tried
