pub mod LentRows
pub mod Laws
