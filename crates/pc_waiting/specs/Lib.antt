pub mod models
pub mod Waiting
pub mod Laws
