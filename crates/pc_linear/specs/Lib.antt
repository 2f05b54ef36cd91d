pub mod models
pub mod Combine
pub mod Equality
pub mod Form
pub mod Laws
