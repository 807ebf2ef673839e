pub mod Looked
pub mod Code
pub mod Laws
