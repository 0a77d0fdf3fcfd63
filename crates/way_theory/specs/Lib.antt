pub mod Follow
pub mod Ways
pub mod FullWays
pub mod BookBytes
pub mod BookNet
pub mod WayFlow
