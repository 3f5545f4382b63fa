-- Laws of paper's Classes.
pub mod Steps
pub mod Updating
pub mod Calls
pub mod Counting
pub mod Leading
pub mod Linked
pub mod Flattening
pub mod Shortening
pub mod Entering
pub mod Linking
pub mod Merging
pub mod Uniting
pub mod Removing
pub mod Removal
pub mod Laws
pub mod Labelled
pub mod Tables
