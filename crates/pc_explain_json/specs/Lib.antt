pub mod CycleJson
pub mod Json
