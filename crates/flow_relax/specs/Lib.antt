pub mod Labels
pub mod Potentials
