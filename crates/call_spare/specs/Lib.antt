pub mod SpareCall
