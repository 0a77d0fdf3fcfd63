pub mod Lists
mod Found
mod WalksAbove
pub mod Certified
pub mod Candidates
pub mod Lowering
mod Raising
