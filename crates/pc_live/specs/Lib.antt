pub mod models
pub mod Live
pub mod Liveness
pub mod Backward
pub mod Laws
