pub mod models
pub mod Bytes
pub mod Spelling
pub mod Number
pub mod Piece
pub mod Cut
pub mod Tokens
pub mod Laws
