pub mod Heads
pub mod Reader
