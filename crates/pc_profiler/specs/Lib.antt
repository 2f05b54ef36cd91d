pub mod models
pub mod Cost
pub mod Profiler
pub mod ProfilerLaws
