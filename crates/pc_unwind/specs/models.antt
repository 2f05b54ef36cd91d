pub mod Named
pub mod Walking
pub mod Remaining
