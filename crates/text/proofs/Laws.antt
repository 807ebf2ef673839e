pub mod Nul
pub mod Chunks
pub mod Width
