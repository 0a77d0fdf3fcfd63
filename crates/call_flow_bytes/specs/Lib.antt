pub mod NetworkBytes
pub mod Prices
pub mod Refusals
pub mod FlowSteps
