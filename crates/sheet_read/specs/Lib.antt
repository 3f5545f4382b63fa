pub mod Whole
pub mod Leaves
pub mod Checked
