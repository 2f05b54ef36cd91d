pub mod Source
pub mod Erasure
pub mod Unit
pub mod UnitErasure
pub mod Plain
pub mod Proper
pub mod models
