pub mod Naming
mod NameExample
