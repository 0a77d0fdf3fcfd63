pub mod WayItems
pub mod Admitting
mod HandingWays
pub mod GivenWays
