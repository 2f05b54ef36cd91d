pub mod Intervals
pub mod Kept
pub mod Narrowed
pub mod Operators
pub mod Ranged
pub mod Rewritten
pub mod Spans
