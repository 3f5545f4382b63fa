pub mod ChunkLaws
pub mod Sheet
