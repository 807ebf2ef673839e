pub mod Sets
pub mod Code
pub mod Laws
