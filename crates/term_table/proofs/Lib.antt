-- Laws of the definitions of specs/.
pub mod Turns
pub mod Bits
pub mod Lists
pub mod Marks
pub mod Closing
pub mod Shape
pub mod Answers
pub mod Adding
pub mod Example
pub mod Meaning
pub mod Ascending
pub mod Found
pub mod Sets
pub mod Sheet
