pub mod Network
pub mod Residual
pub mod Potential
pub mod Input
pub mod Accepted
pub mod FullList
pub mod Struct
