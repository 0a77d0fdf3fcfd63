pub mod Table
pub mod FirstBad
pub mod MovePass
pub mod EntryPass
mod Forms
pub mod EntryNames
