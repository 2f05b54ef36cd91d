mod Copies
pub mod ErasureLaws
pub mod SourceLists
pub mod UnitLaws
pub mod WithoutCalls
