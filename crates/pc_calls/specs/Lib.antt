pub mod UnitNames
pub mod CallRun
pub mod Inline
pub mod Refusals
pub mod Measures
pub mod Counted
pub mod Inlining
pub mod Laws
