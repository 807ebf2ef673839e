pub mod Metadata
pub mod Laws
