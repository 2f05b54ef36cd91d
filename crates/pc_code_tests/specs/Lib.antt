pub mod Given
pub mod Summing
