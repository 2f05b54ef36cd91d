pub mod CompilerEndings
pub mod CompilerStatuses
pub mod Shelves
pub mod Translations
