pub mod Paths
pub mod Circles
pub mod Walking
