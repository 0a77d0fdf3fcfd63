pub mod Lines
pub mod TextOfLine
