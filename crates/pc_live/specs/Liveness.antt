-- What a liveness tells: for each node a set of variables.
use Rattle.std.specs.Prelude.{◌≡◌, ◌↔◌, ◌<◌, ℕ, Bool, true, nat_eq, List, length, slice_index_or}
use Rattle.std.specs.Int.{bit_at}
use Rattle.pc_flow.specs.FlowGraph.{FlowGraph, variables}
use Rattle.pc_live.specs.declared.variable_set.VariableSet.{VariableSet}
use Rattle.pc_live.specs.Live.{IsLive}

-- whether a variable is in a set: its bit is 1
abbrev pub member : VariableSet → ℕ → Bool
member set variable = nat_eq (bit_at set.bits variable) 1

-- the set of a node
abbrev pub set_at : List VariableSet → ℕ → VariableSet
set_at sets at = slice_index_or sets at (record { bits = 0 })

-- the liveness of a graph: one set a node, and in it exactly the variables that are live there
pub record IsLivenessOf (flow : FlowGraph) (sets : List VariableSet) : Type 0 where
  pub as_many : length sets ≡ length flow.nodes
  pub exact : (at variable : ℕ) → at < length flow.nodes → variable < variables
      → (member (set_at sets at) variable ≡ true) ↔ IsLive flow variable at
