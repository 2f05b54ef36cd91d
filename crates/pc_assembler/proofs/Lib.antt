pub mod Endings
pub mod Shelves
pub mod Statuses
