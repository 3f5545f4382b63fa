pub mod Holding
pub mod One
