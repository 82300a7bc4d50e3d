-- Tables that are told keep their keys rising.
pub mod Rises
