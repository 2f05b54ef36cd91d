mod Proper
mod Arrivals
mod Rests
mod Passed
pub mod Shown
pub mod Once
