mod Lines
mod Summing
