mod Minimising
mod Following
pub mod Candidates
mod Counting
