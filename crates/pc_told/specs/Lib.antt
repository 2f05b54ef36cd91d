pub mod Tellings
pub mod ToldRows
pub mod Resources
pub mod Laws
