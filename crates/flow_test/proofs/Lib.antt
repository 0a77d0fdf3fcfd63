mod Excess
pub mod Accepted
