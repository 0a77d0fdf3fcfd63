pub mod NodeSet
pub mod Preorder
