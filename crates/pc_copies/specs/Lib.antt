pub mod models
pub mod Laws
pub mod Moves
