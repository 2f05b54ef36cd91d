pub mod Replaying
pub mod models
