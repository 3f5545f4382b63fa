pub mod Laws
pub mod InWords
