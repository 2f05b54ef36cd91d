pub mod Cuts
pub mod Checked
pub mod LeftRuns
