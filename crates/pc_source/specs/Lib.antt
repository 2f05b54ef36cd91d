pub mod models
pub mod Files
pub mod Laws
pub mod Meaning
pub mod Reading
pub mod Source
pub mod SourceFaults
