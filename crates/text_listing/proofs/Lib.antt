mod Spaced
pub mod Sizes
pub mod WithoutParts
mod Examples
