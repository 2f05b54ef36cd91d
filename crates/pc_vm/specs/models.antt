pub mod Made
pub mod Planned
pub mod RowResult
pub mod Moves
pub mod Sound
