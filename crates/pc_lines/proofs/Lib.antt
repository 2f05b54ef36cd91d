pub mod Forms
pub mod Pushed
pub mod Sizes
