pub mod Busiest
pub mod Summary
pub mod Json
pub mod Laws
