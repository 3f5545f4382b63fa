pub mod Feeding
pub mod Finished
pub mod Sheeted
pub mod Leaving
