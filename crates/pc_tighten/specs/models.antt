pub mod Drafts
pub mod Gotos
pub mod Listing
pub mod Parents
pub mod Raising
