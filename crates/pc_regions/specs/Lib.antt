pub mod models
pub mod Reachable
pub mod Loops
pub mod Cut
pub mod Laws
