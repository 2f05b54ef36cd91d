pub mod models
pub mod StoredLeft
pub mod Automaton
pub mod AutomatonRun
pub mod RunsAsRegion
pub mod There
pub mod Reachable
pub mod RowFits
