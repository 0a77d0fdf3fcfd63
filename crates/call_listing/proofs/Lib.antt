mod Texts
mod AsBefore
mod ListingExamples
