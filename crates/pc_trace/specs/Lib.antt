pub mod models
pub mod Deeds
pub mod Trace
pub mod TraceText
pub mod Laws
