pub mod Walk
pub mod Rows
pub mod Names
pub mod Code
pub mod Examples
