pub mod Items
pub mod Turns
pub mod Places
pub mod Room
pub mod Given
pub mod Refusing
