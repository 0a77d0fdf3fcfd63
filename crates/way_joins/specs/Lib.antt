pub mod Tables
pub mod Joins
