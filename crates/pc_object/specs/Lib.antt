pub mod models
pub mod ObjectText
pub mod Numbers
pub mod Reading
pub mod Sizes
pub mod Cause
pub mod Laws
