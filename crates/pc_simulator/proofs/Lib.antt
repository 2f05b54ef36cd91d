pub mod SimulatorEndings
pub mod SimulatorStatuses
