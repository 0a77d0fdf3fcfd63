pub mod Enumerator
