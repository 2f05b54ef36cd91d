pub mod models
pub mod Choosing
pub mod ScheduleRun
pub mod Pace
pub mod Registers
pub mod Laws
pub mod Notes
pub mod Compiled
