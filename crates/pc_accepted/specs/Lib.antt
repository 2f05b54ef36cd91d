pub mod Arrivals
pub mod Leading
pub mod Accepted
pub mod Laws
