pub mod Arranging
pub mod Counting
pub mod Following
pub mod Packing
pub mod Placing
pub mod Sources
