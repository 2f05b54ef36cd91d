pub mod Checked
pub mod models
