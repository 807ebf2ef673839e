pub mod Steps
pub mod Numbers
pub mod Promises
pub mod Set0
pub mod Looks
