mod Balances
mod Put
pub mod Made
