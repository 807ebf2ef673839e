pub mod SetHeader
pub mod Laws
