pub mod Traced
pub mod InTurn
