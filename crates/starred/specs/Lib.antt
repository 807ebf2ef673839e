pub mod Inputs
pub mod Table
