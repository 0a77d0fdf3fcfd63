pub mod Judging
pub mod LineTold
pub mod WithinLimits
pub mod Names
pub mod ShortForms
pub mod Example
pub mod LineExamples
