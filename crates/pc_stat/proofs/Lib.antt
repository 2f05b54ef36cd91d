pub mod RankedRows
pub mod Costs
pub mod Floats
