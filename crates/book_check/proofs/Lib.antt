mod Form
mod BookChecking
pub mod Accepting
