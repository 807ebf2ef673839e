pub mod Promises
pub mod History
pub mod Widths
