pub mod Alike
pub mod Supplies
pub mod Laws
