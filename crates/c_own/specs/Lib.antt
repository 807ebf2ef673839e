pub mod Code
pub mod Laws
