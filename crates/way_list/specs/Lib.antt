pub mod Room
pub mod WayListing
