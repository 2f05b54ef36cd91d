pub mod models
pub mod Pass
