pub mod Data
pub mod Code
pub mod Laws
