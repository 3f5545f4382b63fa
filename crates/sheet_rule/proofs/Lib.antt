pub mod Small
pub mod Loaded
pub mod Ruled
pub mod Itemed
pub mod Leaving
