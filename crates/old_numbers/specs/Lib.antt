pub mod Before
pub mod Renumbered
pub mod Old
pub mod Told
