-- The flow graph as plain data, and what every one keeps.
use Rattle.std.specs.Prelude.{◌≡◌, ◌⊎◌, ℕ, ℤ, ◌+◌, ◌<◌, ◌≤◌, List, All, length, Option, Some, None, IfSome, slice_get, slice_index}
use Rattle.std.specs.List.{AllByRecursion}
use Rattle.pc_word.specs.SourceLimits.{most_scalars, most_temporaries, most_nodes}
use Rattle.pc_word.specs.MachineLimits.{most_arrays}
use Rattle.pc_word.specs.declared.item.Item.{Item}
use Rattle.pc_word.specs.declared.item.Operand.{Operand}
use Rattle.pc_word.specs.declared.item.Operand.TheVariants.{Name, Lit}
use Rattle.pc_word.specs.declared.loop_mark.LoopMark.{LoopMark}
use Rattle.pc_word.specs.Data.{AreData}
use Rattle.pc_word.specs.Items.{operands_of, dest_of, array_of}
use Rattle.pc_word.specs.Word.{IsWord}
use Rattle.pc_flow.specs.declared.node.FlowNode.{FlowNode}
use Rattle.pc_flow.specs.declared.node.FlowNode.TheVariants.{Op, Test, Stop, Trap}

-- a graph: its nodes by number, a rank and the innermost loop of each, the node where it begins, the loops, the lengths of
-- its arrays, and the words with which each array begins
pub record FlowGraph : Type 0 where
  pub nodes : List FlowNode
  pub ranks : List ℕ
  pub inside : List (Option ℕ)
  pub entry : ℕ
  pub loops : List LoopMark
  pub arrays : List ℕ
  pub initial : List (List ℤ)

-- ---- names, arrays

-- the names of variables: 64 scalars, and after them 32 temporaries
abbrev pub variables : ℕ
variables = most_scalars + most_temporaries

-- a variable that there is, or a literal
abbrev pub IsVariable : Operand → Type 0
IsVariable (Name name) = name < variables
IsVariable (Lit value) = Unit {0}

-- an item of a graph with so many arrays: the variables that it reads and writes, and its array, are there
pub record ItemFits (arrays : ℕ) (item : Item) : Type 0 where
  pub reads : AllByRecursion IsVariable (operands_of item)
  pub writes : IfSome (dest_of item) (λ name. name < variables)
  pub array : IfSome (array_of item) (λ array. array < arrays)

-- ---- edges

-- an edge leads from a node to this one
abbrev pub HasEdge : FlowNode → ℕ → Type 0
HasEdge (Op item to) next = to ≡ next
HasEdge (Test on on_yes on_no turn) next = (on_yes ≡ next) ⊎ (on_no ≡ next)
HasEdge Stop next = ⊥
HasEdge (Trap kind line) next = ⊥

-- an edge leads to a node that is there
abbrev pub IsTarget : FlowGraph → ℕ → Type 0
IsTarget flow to = to < length flow.nodes

-- and to a smaller rank
pub record Descends (flow : FlowGraph) (from to : ℕ) : Type 0 where
  pub target : IsTarget flow to
  pub lower : slice_index flow.ranks to < slice_index flow.ranks from

-- the edges of a test: those of a loop's test may lead to any rank
abbrev pub TestFits : FlowGraph → (from on_yes on_no : ℕ) → Option ℕ → Type 0
TestFits flow from on_yes on_no None = Descends flow from on_yes × Descends flow from on_no
TestFits flow from on_yes on_no (Some turn) = IsTarget flow on_yes × IsTarget flow on_no × (turn < length flow.loops)

-- a node with this number: its names and arrays are there, and its edges lead where they may
abbrev pub NodeFits : FlowGraph → ℕ → FlowNode → Type 0
NodeFits flow from (Op item to) = ItemFits (length flow.arrays) item × Descends flow from to
NodeFits flow from (Test on on_yes on_no turn) = IsVariable on × TestFits flow from on_yes on_no turn
NodeFits flow from Stop = Unit {0}
NodeFits flow from (Trap kind line) = Unit {0}

-- ---- the whole

-- What every graph keeps. So each cycle passes the test of a loop: along every other edge the rank falls.
pub record IsFlow (flow : FlowGraph) : Type 0 where
  pub some_nodes : 1 ≤ length flow.nodes
  pub few_nodes : length flow.nodes ≤ most_nodes
  pub all_ranked : length flow.ranks ≡ length flow.nodes
  pub all_placed : length flow.inside ≡ length flow.nodes
  pub begins : IsTarget flow flow.entry
  pub few_arrays : length flow.arrays ≤ most_arrays
  -- there is a list of words for each array, which has room in it and does not end in 0
  pub data_fit : AreData flow.arrays flow.initial
  pub data_words : All (All IsWord) flow.initial
  -- each node is in a loop that there is, or in none
  pub loops_there : (node loop : ℕ) → slice_get flow.inside node ≡ Some (Some loop) → loop < length flow.loops
  -- the loop round a loop has a smaller number
  pub outer_first : (loop : ℕ) (mark : LoopMark) → slice_get flow.loops loop ≡ Some mark → IfSome mark.outer (λ outer. outer < loop)
  pub nodes_fit : (number : ℕ) (node : FlowNode) → slice_get flow.nodes number ≡ Some node → NodeFits flow number node

-- ---- changes

-- the loop whose test a node is
abbrev pub tested_loop : FlowNode → Option ℕ
tested_loop (Test on on_yes on_no turn) = turn
tested_loop _ = None

-- a node may take the place of another: if it is a loop's test, then of the same loop
abbrev pub KeepsTurn : FlowNode → FlowNode → Type 0
KeepsTurn old new = IfSome (tested_loop new) (λ turn. tested_loop old ≡ Some turn)
