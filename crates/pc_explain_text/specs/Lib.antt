pub mod models
pub mod StateLines
pub mod CycleLines
pub mod Text
