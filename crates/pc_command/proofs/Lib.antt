pub mod Numbers
pub mod Flags
pub mod Programs
pub mod Taken
pub mod Sources
pub mod Ranges
pub mod Lines
pub mod Commands
pub mod InRange
pub mod Values
pub mod Walks
pub mod Defaults
pub mod Whole
pub mod PlainWords
pub mod CheckWords
mod Examples
