pub mod Walking
pub mod Ways
pub mod Words
