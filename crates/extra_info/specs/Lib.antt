pub mod ExtraInfo
pub mod Laws
