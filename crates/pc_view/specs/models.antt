pub mod Counted
pub mod Lists
pub mod Media
pub mod Rows
