pub mod Chars
pub mod Sound
pub mod Points
