pub mod Renaming
pub mod Witness
pub mod ItemRenames
pub mod RowRenames
pub mod IsRenamed
pub mod Writes
pub mod Laws
pub mod models
