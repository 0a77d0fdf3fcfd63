pub mod Lines
pub mod Questions
pub mod Columns
pub mod Passes
