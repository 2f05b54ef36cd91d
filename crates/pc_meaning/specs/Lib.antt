pub mod ProgramState
pub mod Expression
pub mod Statement
pub mod SourceRun
pub mod Lowered
pub mod Trace
pub mod Laws
