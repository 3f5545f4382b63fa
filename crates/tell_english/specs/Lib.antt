pub mod Shapes
pub mod Words
pub mod Said
pub mod Cases
pub mod Told
