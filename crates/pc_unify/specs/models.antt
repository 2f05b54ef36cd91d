pub mod Marks
pub mod Emptied
pub mod Twins
