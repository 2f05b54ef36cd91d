pub mod models
pub mod Passages
pub mod Counts
pub mod Work
pub mod Profiles
pub mod Laws
