pub mod Lists
pub mod Plans
pub mod Results
pub mod Rows
pub mod Steps
pub mod Cycles
pub mod Exits
pub mod Starts
