pub mod Name
pub mod BookNames
