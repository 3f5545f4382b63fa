-- The definitions that this crate's contracts cite, and those of the calls.
pub mod Border
pub mod Telling
pub mod Loads
