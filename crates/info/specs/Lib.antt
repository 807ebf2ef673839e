pub mod Lent
pub mod Reads
