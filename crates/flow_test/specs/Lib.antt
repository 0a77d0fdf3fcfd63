pub mod Excess
pub mod FlowTest
