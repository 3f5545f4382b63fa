-- Laws of the constrained sites.
pub mod Placing
pub mod Adding
pub mod Inserting
