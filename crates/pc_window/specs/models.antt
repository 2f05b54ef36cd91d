pub mod Stored
pub mod Ranks
pub mod Listing
