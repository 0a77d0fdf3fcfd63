pub mod Closure
pub mod Candidates
