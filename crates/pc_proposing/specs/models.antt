pub mod Leaving
pub mod Drafts
