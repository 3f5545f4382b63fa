-- Laws of what a line says.
mod Reading
mod Stepping
pub mod Halving
pub mod Simulating
