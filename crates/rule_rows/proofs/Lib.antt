-- Laws of how the lists are read.
pub mod Reading
pub mod Holders
pub mod Agreeing
pub mod One
