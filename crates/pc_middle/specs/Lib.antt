pub mod models
pub mod CutProgram
pub mod Laws
