-- The definitions that this crate's contracts cite.
pub mod Sheet
pub mod Leaves
