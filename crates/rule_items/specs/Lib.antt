pub mod Shown
pub mod Way
