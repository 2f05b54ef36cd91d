-- The rounds of a backward analysis: sets that grow, and have a bound.
use Rattle.std.specs.Prelude.{◌≤◌, ◌^◌, ℕ, Bool, List, sum_by, All}
use Rattle.pc_word.specs.declared.item.Item.{Item}
use Rattle.pc_flow.specs.FlowGraph.{FlowGraph}
use Rattle.pc_live.specs.declared.variable_set.VariableSet.{VariableSet}
use Rattle.pc_live.specs.Backward.{AreBuilt}

-- sets that come of empty ones, and as numbers have a bound
pub record AreGrown (counts : VariableSet → Item → Bool) (flow : FlowGraph) (sets : List VariableSet) : Type 0 where
  pub fit : All (λ set. set.bits ≤ 2 ^ 128) sets
  pub built : AreBuilt counts flow sets

-- the sum of the sets as numbers, which rises where a set grows
abbrev pub total : List VariableSet → ℕ
total sets = sum_by (λ set. set.bits) sets
