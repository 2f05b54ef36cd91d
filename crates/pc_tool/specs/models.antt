pub mod Compiling
pub mod Translating
