pub mod Acts
pub mod Standing
pub mod Leaving
