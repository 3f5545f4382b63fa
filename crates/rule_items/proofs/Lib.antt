-- Laws of the items.
pub mod Ranges
pub mod Rows
pub mod Numbering
pub mod Taking
pub mod Stepping
pub mod Walking
pub mod Telling
