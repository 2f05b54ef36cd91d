pub mod models
pub mod Arguments
pub mod Laws
pub mod Matching
pub mod Options
pub mod Requests
pub mod Words
