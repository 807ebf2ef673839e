pub mod Cuts
pub mod CutOpening
pub mod CutReads
pub mod Proof
pub mod Promises
pub mod Asks
pub mod CutNames
