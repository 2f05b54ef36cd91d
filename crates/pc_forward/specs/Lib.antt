pub mod models
pub mod Forwardable
pub mod Forwarded
pub mod Trail
