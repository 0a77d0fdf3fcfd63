pub mod Premises
pub mod Marked
mod Question8
