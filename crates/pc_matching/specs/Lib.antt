pub mod Facts
pub mod Matching
pub mod FactsAfter
pub mod RowMatch
pub mod Laws
pub mod Examples
pub mod models
