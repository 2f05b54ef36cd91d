pub mod Counts
pub mod Cutting
pub mod Entering
pub mod Marks
pub mod Numbered
pub mod Reaching
