pub mod Deleting
pub mod Unifying
pub mod models
