pub mod PinMap
pub mod Mangle
pub mod Code
pub mod Others
pub mod Laws
pub mod Examples
