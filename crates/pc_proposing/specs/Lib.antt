pub mod models
