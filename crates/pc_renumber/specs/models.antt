-- Models of private code.
pub mod Numbering
