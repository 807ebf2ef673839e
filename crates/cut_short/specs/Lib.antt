pub mod Shown
pub mod Demand3
