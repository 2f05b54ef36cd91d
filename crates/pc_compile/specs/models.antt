pub mod Leaves
pub mod Marked
pub mod Counting
pub mod Giving
pub mod Progress
pub mod Errors
pub mod Heading
pub mod Made
