pub mod Runs
pub mod Sequence
pub mod Lines
pub mod Leaves
pub mod Rows
pub mod Alternatives
pub mod Wider
