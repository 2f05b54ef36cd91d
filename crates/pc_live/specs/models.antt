pub mod Example
pub mod Rounds
