pub mod Finding
pub mod Rewriting
pub mod Standing
pub mod Turning
