mod Summing
mod HowOften
mod Successors
mod Induction
mod Once
mod Openers
pub mod Links
pub mod Places
pub mod Ranks
pub mod Theorems
mod Behind
mod OnePart
mod AllParts
pub mod Searched
