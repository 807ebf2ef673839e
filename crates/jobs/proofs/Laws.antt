pub mod Steps
pub mod Tested
pub mod Carry
pub mod OneCall
pub mod History
pub mod OneCount
