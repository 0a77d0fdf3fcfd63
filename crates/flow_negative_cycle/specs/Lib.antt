pub mod Predecessors
pub mod Search
