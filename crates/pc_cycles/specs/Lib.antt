pub mod models
pub mod Transitions
pub mod Chains
pub mod Cycles
pub mod Bounds
pub mod Laws
