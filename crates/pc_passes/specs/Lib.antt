pub mod Passes
pub mod CompilerPasses
