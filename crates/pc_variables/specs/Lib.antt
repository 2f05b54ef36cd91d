pub mod Holdings
pub mod Holds
pub mod Laws
