mod Arcs
pub mod Accepted
