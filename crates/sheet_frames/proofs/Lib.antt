pub mod Decoded
pub mod Frames
pub mod Turns
pub mod Whole
pub mod Values
pub mod Back
