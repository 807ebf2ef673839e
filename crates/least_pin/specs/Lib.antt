pub mod LeastPin
pub mod Laws
