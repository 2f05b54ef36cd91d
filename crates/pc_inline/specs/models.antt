pub mod Finding
pub mod First
pub mod Parts
pub mod Sites
pub mod Sized
pub mod Weights
