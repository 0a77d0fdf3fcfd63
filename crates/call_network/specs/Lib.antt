pub mod NetworkCalls
pub mod NetworkRules
pub mod NetworkEntries
pub mod FirstFlow
