pub mod Feeding
pub mod Leaving
