mod Cases
pub mod Visits
pub mod Summed
pub mod Sizes
pub mod Columns
mod Turn
