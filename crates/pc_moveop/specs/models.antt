pub mod Climbs
pub mod Landing
