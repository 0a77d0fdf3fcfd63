pub mod FullList
pub mod Walks
pub mod Rises
pub mod Prices
pub mod Loops
pub mod Struct
