pub mod Writable
pub mod Leaving
