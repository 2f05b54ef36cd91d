pub mod Given
pub mod SummingKept
