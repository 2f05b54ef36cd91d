pub mod models
pub mod Fault
pub mod InMemory
pub mod Shelf
pub mod Stream
