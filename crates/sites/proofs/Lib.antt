pub mod Held
pub mod Places
pub mod Put
pub mod Unfolds
pub mod Alike
pub mod Adds
pub mod After
