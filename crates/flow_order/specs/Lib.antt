pub mod Minimising
pub mod Following
