pub mod SameData
pub mod FirstEntries
pub mod Arrived
pub mod Arranging
pub mod Leads
pub mod LeftAtLeaves
pub mod Passes
pub mod Starting
