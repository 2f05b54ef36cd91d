pub mod Inlined
pub mod models
