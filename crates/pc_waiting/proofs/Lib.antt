pub mod Looked
pub mod Rooms
pub mod Walked
pub mod Needs
pub mod Ways
pub mod Standing
pub mod Reasons
pub mod Counted
