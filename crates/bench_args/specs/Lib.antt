pub mod Reason
pub mod Setting
