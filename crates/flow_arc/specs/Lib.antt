pub mod FreeMarks
pub mod WalksAbove
pub mod Changes
