pub mod Like
pub mod Count
pub mod Steps
pub mod Calls
pub mod RomRows
