-- Laws of the definitions. Each is the contract of a function of laws.rt, which does nothing.
use Rattle.std.specs.Prelude.{◌≡◌, ℕ, ℤ, List, Some, slice_get}
use Rattle.pc_word.specs.State.{State}
use Rattle.pc_word.specs.Run.{run_from}
use Rattle.pc_flow.specs.FlowGraph.{FlowGraph, IsFlow}
use Rattle.pc_flow.specs.FlowRun.{flow_step, flow_run}
use Rattle.pc_table.specs.Table.{Table, Next}
use Rattle.pc_table.specs.RegionRun.{region_run, table_run}
use Rattle.pc_regions.specs.Cut.{IsCutOf, heads_of}

-- a graph has one cut: what is said of a table leaves nothing open
abbrev pub AGraphHasOneCut : Type 0
AGraphHasOneCut = (flow : FlowGraph) → IsFlow flow → (one other : Table) → IsCutOf flow one → IsCutOf flow other → one ≡ other

-- a cut shows on an input, after every number of items and tests, what its graph shows after as many nodes,
-- where the arrays begin with the graph's data
abbrev pub ACutRunsAsItsGraph : Type 0
ACutRunsAsItsGraph = (flow : FlowGraph) (table : Table) → IsCutOf flow table → (input : List ℤ) (n : ℕ) → table_run table flow.initial input n ≡ flow_run flow input n

-- each region of it, from any state, shows after every number of items and tests what the graph shows after as many nodes from
-- the region's head
abbrev pub RegionsRunAsTheirNodes : Type 0
RegionsRunAsTheirNodes = (flow : FlowGraph) (table : Table) → IsCutOf flow table → (number head : ℕ) → slice_get (heads_of table.regions) number ≡ Some head
    → (s : State) (n : ℕ) → region_run table (Next number) s n ≡ run_from (flow_step flow) n (record { node = head; state = s })
