pub mod Output
pub mod Layout
pub mod Packing
pub mod Making
