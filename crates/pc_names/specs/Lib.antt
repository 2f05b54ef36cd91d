pub mod Declarations
pub mod Spellings
pub mod Laws
