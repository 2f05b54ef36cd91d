pub mod Feeds
pub mod Lines
pub mod LeadingRows
pub mod Objects
pub mod LeadsTo
pub mod GraphLines
