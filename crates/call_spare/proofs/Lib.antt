mod Sparing
mod SpareExamples
