mod NodeSet
mod Preorder
