pub mod LeastCapacity
pub mod Pushing
