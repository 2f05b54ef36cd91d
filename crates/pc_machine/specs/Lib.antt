pub mod Registers
pub mod MachineCode
pub mod MachineRun
pub mod Reachable
pub mod WellFormed
pub mod Flaws
pub mod Checks
pub mod Laws
