-- Laws of check 5, and of the lists that it reads.
pub mod Names
pub mod Showing
pub mod Childless
