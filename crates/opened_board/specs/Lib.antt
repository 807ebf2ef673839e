pub mod ReadAfter
pub mod Histories
pub mod Laws
