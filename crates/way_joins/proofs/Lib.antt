pub mod Tables
pub mod Lookup
