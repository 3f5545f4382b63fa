pub mod Closed
pub mod Lined
pub mod Leaving
