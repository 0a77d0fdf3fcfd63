pub mod Book
pub mod Questions
pub mod LineTold
pub mod WithinLimits
pub mod Checked
pub mod Steps
pub mod Held
