pub mod Drafts
pub mod Fills
pub mod LowersExpression
pub mod LowersStatement
