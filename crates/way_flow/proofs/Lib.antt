mod Reading
mod Laying
pub mod Lines
