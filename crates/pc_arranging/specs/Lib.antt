pub mod models
pub mod Numbering
pub mod Stubs
pub mod Exchanging
pub mod Naming
pub mod Arranging
pub mod CanArrange
pub mod Laws
