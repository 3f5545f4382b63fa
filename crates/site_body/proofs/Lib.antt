pub mod Tables
pub mod Shape
pub mod Back
pub mod Turns
pub mod Bodies
