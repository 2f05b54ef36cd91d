pub mod models
pub mod Unwindable
pub mod Laws
