pub mod Sizes
pub mod States
pub mod SumWindows
