pub mod models
pub mod Laws
pub mod Outside
pub mod Told
pub mod Viewer
