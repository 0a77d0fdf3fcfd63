mod Digits
mod Progress
mod Standing
mod Turn
mod Whole
