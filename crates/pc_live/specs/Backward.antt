-- What a backward analysis finds: a set of variables for each node, by what the node reads and by the sets of the nodes after it.
use Rattle.std.specs.Prelude.{◌≡◌, ◌<◌, ◌||◌, ◌&&◌, ℕ, Bool, true, false, not, List, length, Option, Some, None, slice_get, slice_set}
use Rattle.pc_word.specs.declared.item.Item.{Item}
use Rattle.pc_flow.specs.declared.node.FlowNode.{FlowNode}
use Rattle.pc_flow.specs.declared.node.FlowNode.TheVariants.{Op, Test, Stop, Trap}
use Rattle.pc_flow.specs.FlowGraph.{FlowGraph, variables}
use Rattle.pc_live.specs.declared.variable_set.VariableSet.{VariableSet}
use Rattle.pc_live.specs.Live.{node_reads, node_writes}
use Rattle.pc_live.specs.Liveness.{member, set_at}

-- whether a node to which an edge leads has a variable in its set
abbrev pub behind : List VariableSet → FlowNode → ℕ → Bool
behind sets (Op item to) variable = member (set_at sets to) variable
behind sets (Test on on_yes on_no turn) variable = member (set_at sets on_yes) variable || member (set_at sets on_no) variable
behind sets Stop variable = false
behind sets (Trap kind line) variable = false

-- whether a node reads a variable, and that counts: what an item reads counts by the set after it, and what is tested always
abbrev pub reads_counted : (VariableSet → Item → Bool) → List VariableSet → FlowNode → ℕ → Bool
reads_counted counts sets (Op item to) variable = counts (set_at sets to) item && node_reads (Op item to) variable
reads_counted counts sets (Test on on_yes on_no turn) variable = node_reads (Test on on_yes on_no turn) variable
reads_counted counts sets Stop variable = false
reads_counted counts sets (Trap kind line) variable = false

-- whether a node needs a variable, as far as the sets after it tell: its read of it counts, or it does not write it, and a set after
-- it has it
abbrev pub needs : (VariableSet → Item → Bool) → List VariableSet → FlowNode → ℕ → Bool
needs counts sets node variable = reads_counted counts sets node variable || (not (node_writes node variable) && behind sets node variable)

abbrev pub needs_of : (VariableSet → Item → Bool) → List VariableSet → Option FlowNode → ℕ → Bool
needs_of counts sets (Some node) variable = needs counts sets node variable
needs_of counts sets None variable = false

-- the same of the node with this number
abbrev pub needs_at : (VariableSet → Item → Bool) → List FlowNode → List VariableSet → ℕ → ℕ → Bool
needs_at counts nodes sets at variable = needs_of counts sets (slice_get nodes at) variable

-- Sets that come of empty ones: what a node needs is put into its set, any number of times.
pub data AreBuilt (counts : VariableSet → Item → Bool) (flow : FlowGraph) : (sets : List VariableSet) → Type 0 where
  All_empty : {sets : List VariableSet} →
      ((at x : ℕ) → member (set_at sets at) x ≡ false) →
      AreBuilt counts flow sets
  One_grown : (sets : List VariableSet) (at : ℕ) (new : VariableSet) →
      AreBuilt counts flow sets →
      at < length sets →
      ((x : ℕ) → x < variables → member new x ≡ (member (set_at sets at) x || needs_at counts flow.nodes sets at x)) →
      AreBuilt counts flow (slice_set sets at new)

-- the set of this node lacks nothing that it needs by the sets after it
pub record IsClosedAt (counts : VariableSet → Item → Bool) (flow : FlowGraph) (sets : List VariableSet) (at : ℕ) : Type 0 where
  pub lacks_none : (variable : ℕ) → variable < variables → needs_at counts flow.nodes sets at variable ≡ true → member (set_at sets at) variable ≡ true

-- nor does any set
abbrev pub IsClosed : (VariableSet → Item → Bool) → FlowGraph → List VariableSet → Type 0
IsClosed counts flow sets = (at : ℕ) → at < length flow.nodes → IsClosedAt counts flow sets at

-- the least sets that lack nothing, one a node
pub record IsSolution (counts : VariableSet → Item → Bool) (flow : FlowGraph) (sets : List VariableSet) : Type 0 where
  pub as_many : length sets ≡ length flow.nodes
  pub built : AreBuilt counts flow sets
  pub closed : IsClosed counts flow sets
