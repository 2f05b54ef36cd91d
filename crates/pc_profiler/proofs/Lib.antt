pub mod Endings
pub mod Listings
pub mod Statuses
