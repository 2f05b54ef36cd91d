pub mod Rows
pub mod SizeLaws
pub mod ResolvedSizes
pub mod ScopeLaws
pub mod FaultLaws
pub mod ExactLaws
pub mod Rules
pub mod ExpressionLaws
pub mod NameLaws
pub mod StatementLaws
pub mod ScopeForms
pub mod SoundLaws
pub mod DataLaws
pub mod ProgramData
pub mod ProgramLaws
mod Examples
