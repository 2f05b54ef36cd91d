pub mod Checks
pub mod Flaws
pub mod MachineRuns
pub mod Paths
mod WorkedRows
