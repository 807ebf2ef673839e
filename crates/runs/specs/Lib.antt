pub mod Runs
pub mod Code
pub mod Laws
