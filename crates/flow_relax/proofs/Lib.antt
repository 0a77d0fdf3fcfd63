pub mod StepCosts
pub mod Sums
pub mod Tried
pub mod Rounds
pub mod Arcs
pub mod Accepted
pub mod Balances
