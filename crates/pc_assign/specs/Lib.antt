pub mod models
pub mod Uses
pub mod Pressure
pub mod Assigned
pub mod Apart
pub mod Stored
