pub mod BookCalls
pub mod BookRules
pub mod BookEntries
pub mod FirstWay
