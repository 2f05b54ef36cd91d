pub mod models
pub mod Kinds
pub mod Laws
pub mod Lowers
pub mod LoopTests
pub mod Lowered
pub mod SourceLoops
