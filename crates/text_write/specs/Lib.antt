pub mod Decimal
pub mod Fit
pub mod Writing
