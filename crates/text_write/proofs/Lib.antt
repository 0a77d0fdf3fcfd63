pub mod Decimal
mod Examples
pub mod Writing
