pub mod models
pub mod FirstReady
pub mod Fillable
pub mod Bringing
pub mod Laws
