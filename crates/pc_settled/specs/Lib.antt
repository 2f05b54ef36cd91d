pub mod Needed
pub mod Webs
pub mod Settled
pub mod Laws
pub mod models
