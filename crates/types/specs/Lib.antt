pub mod Types
pub mod Laws
pub mod Known
pub mod Texts
