pub mod Questions
pub mod Arcs
