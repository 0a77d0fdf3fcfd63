mod Shorten
mod LabelBounds
pub mod Pricing
pub mod Beyond
pub mod CommonPrices
mod Arcs
