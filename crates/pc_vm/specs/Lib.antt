pub mod models
pub mod Contents
pub mod Standing
pub mod Exits
