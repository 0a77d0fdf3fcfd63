pub mod Sending
pub mod Answer
