pub mod Shown
pub mod CyclesWhole
pub mod Whole
