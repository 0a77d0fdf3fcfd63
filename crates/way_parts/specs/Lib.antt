pub mod Parts
pub mod Acyclic
pub mod Ticks
