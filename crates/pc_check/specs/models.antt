pub mod Parts
pub mod Resolves
pub mod View
