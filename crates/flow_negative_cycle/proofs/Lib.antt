mod Relaxing
mod Cycles
mod StepsBack
mod Searching
pub mod Ending
