-- Models of private code.
pub mod Renaming
pub mod Merges
