pub mod ReadLists
pub mod ReadTexts
pub mod ReadParts
pub mod ReadingLaws
