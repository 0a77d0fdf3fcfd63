pub mod BookRun
pub mod FirstWay
mod BookEntries
mod BookExamples
