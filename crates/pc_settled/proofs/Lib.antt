pub mod Bits
pub mod Needs
pub mod Webs
pub mod Holding
