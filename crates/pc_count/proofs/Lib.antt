pub mod Numbered
pub mod Counts
pub mod Cycles
pub mod Least
pub mod Sums
pub mod Within
pub mod Works
pub mod Profiles
