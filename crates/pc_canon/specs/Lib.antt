pub mod models
pub mod Pairs
pub mod Shift
pub mod Canonical
pub mod Bytes
pub mod Key
pub mod Keyed
pub mod Laws
