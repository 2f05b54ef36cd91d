pub mod Endings
pub mod Programs
pub mod Sources
pub mod Statuses
