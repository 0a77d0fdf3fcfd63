mod Held
mod Standing
pub mod Steps
pub mod Places
pub mod Given
