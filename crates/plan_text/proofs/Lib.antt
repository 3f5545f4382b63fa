pub mod Laws
pub mod Anew
pub mod Walks
pub mod Turns
