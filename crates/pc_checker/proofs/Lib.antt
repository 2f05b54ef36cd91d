pub mod Answers
pub mod Certificates
pub mod Endings
pub mod Objects
pub mod Shelves
pub mod Sources
pub mod Statuses
