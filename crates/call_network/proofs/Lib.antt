pub mod NetworkRun
pub mod FirstFlow
mod NetworkEntries
mod NetworkExamples
