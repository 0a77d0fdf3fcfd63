pub mod Closing
pub mod BookCheck
