pub mod Keeping
pub mod Narrowing
pub mod Rewriting
