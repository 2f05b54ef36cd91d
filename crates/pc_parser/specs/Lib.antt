pub mod models
pub mod Places
pub mod Operators
pub mod Expressions
pub mod Calls
pub mod Statements
pub mod Units
pub mod Parse
