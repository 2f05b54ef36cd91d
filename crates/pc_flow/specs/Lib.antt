pub mod models
pub mod FlowGraph
pub mod FlowRun
pub mod Laws
pub mod Reachable
