pub mod Bits
pub mod Demangle
pub mod Laws
pub mod Examples
pub mod Refused
