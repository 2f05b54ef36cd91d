pub mod models
pub mod NamedRow
pub mod Searches
pub mod Recording
pub mod Pattern
pub mod Laws
