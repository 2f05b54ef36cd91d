pub mod Signature
pub mod Simulation
