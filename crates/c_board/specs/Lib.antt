pub mod Board
pub mod Value
pub mod Laws
