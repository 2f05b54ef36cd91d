pub mod Causes
pub mod Drafts
pub mod Headers
pub mod Ranges
pub mod Tables
