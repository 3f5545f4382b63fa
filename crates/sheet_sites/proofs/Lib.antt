pub mod Small
pub mod Added
pub mod Begun
pub mod Sited
pub mod Leaving
