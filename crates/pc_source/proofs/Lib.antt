pub mod CheckedTexts
pub mod Files
pub mod FrontEnd
pub mod Readings
pub mod Sources
