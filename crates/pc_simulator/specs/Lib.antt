pub mod models
pub mod Simulation
pub mod Simulator
pub mod SimulatorLaws
