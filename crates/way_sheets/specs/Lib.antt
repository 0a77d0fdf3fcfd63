pub mod Sheets
pub mod Lines
pub mod Writing
pub mod EntrySize
