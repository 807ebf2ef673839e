pub mod BaseZero
