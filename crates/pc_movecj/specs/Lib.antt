pub mod Dividing
pub mod MovingTest
pub mod models
