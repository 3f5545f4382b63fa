pub mod Fed
pub mod Pieces
pub mod Ends
pub mod Held
pub mod Cut
