pub mod StoredRegions
pub mod Live
pub mod Tests
