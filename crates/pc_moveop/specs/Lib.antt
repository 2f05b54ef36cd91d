pub mod NodeTree
pub mod Climbing
pub mod Taking
pub mod Refusing
pub mod Moving
pub mod models
