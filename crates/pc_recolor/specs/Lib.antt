pub mod Recolored
pub mod models
