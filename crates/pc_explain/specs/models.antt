pub mod Counted
pub mod Searched
