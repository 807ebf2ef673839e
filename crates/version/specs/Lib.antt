pub mod Version
pub mod Laws
