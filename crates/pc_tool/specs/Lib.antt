pub mod models
pub mod Scheduled
pub mod Compilation
pub mod Compiler
pub mod CompilerLaws
