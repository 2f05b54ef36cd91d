pub mod Cutting
pub mod Checking
