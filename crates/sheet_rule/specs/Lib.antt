pub mod Rules
pub mod Leaves
