pub mod Renaming
pub mod Pools
pub mod Leading
pub mod Seen
