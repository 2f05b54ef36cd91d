pub mod Expressions
pub mod OnlyReads
pub mod Statements
pub mod LoopTests
pub mod SourceRuns
pub mod Operators
pub mod Traces
mod Programs
mod WorkedRuns
mod RuleRuns
