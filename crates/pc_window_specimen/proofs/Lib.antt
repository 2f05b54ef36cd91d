pub mod Checked
pub mod NamedThere
pub mod Unwindable
