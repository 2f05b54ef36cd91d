pub mod models
pub mod Bounds
pub mod Interval
pub mod Over
pub mod Ranged
