pub mod Table
pub mod Steps
pub mod Laws
