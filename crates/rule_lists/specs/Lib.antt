pub mod Entries
pub mod Among
