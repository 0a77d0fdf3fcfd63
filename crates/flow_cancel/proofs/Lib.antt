pub mod Cancelling
pub mod Cheapest
pub mod NegativeCycles
