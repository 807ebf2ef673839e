pub mod Steps
pub mod Fits
pub mod Sanity
pub mod Items
pub mod Promises
pub mod Strings
