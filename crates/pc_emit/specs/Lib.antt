pub mod models
pub mod Registers
pub mod Emitted
pub mod Leading
pub mod Bytes
pub mod Emitting
pub mod PackedForm
pub mod Laws
