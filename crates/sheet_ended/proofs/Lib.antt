pub mod Laws
pub mod Holds
