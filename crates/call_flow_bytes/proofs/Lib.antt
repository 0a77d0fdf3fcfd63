pub mod FlowItems
pub mod Admitting
mod Prices
