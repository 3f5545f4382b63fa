-- Laws of how constrained sites are laid out.
pub mod LaidLaws
pub mod One
