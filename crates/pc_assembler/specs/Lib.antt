pub mod models
pub mod Assembler
pub mod Faults
pub mod FaultText
pub mod Laws
pub mod Outside
pub mod Told
