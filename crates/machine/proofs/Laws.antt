pub mod Follow
pub mod Component
pub mod Along
