pub mod Runtime
pub mod Words
