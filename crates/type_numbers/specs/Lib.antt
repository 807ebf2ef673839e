pub mod TypeNumbers
pub mod Laws
