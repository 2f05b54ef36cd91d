pub mod Table
pub mod RegionRun
pub mod TableKeeps
pub mod StoredTable
pub mod KeptOnce
pub mod Loops
pub mod Laws
