pub mod Opening
pub mod Reply
pub mod Code
pub mod Laws
pub mod Examples
