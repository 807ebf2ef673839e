pub mod Prog
pub mod Examples
