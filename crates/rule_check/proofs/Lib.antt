-- Laws of the class check.
pub mod Settling
pub mod Searching
pub mod Naming
pub mod Answering
pub mod Climbing
pub mod Judging
