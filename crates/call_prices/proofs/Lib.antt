pub mod CommonPrices
mod Answers
mod PriceExamples
