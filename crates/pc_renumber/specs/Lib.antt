pub mod Renumbering
pub mod models
