pub mod Sets
pub mod Holds
