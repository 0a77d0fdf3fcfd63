mod Closure
mod Reaching
mod Candidates
mod Narrowing
