pub mod Sets
pub mod Found
pub mod Holding
