pub mod Example
pub mod Graphs
pub mod Steps
