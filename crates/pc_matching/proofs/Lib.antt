pub mod Elements
pub mod Tests
pub mod TakenEffects
pub mod FirstWriters
pub mod Listing
pub mod FoundRows
pub mod Stored
