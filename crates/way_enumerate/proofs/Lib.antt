mod Reading
pub mod Enumerating
