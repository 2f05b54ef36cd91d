-- The passes, as they are put together, and what they make of a graph one after another.
use Rattle.std.specs.Prelude.{◌≡◌, ℕ, List, [], ◌∷◌, codes}
use Rattle.pc_flow.specs.FlowGraph.{FlowGraph}
use Rattle.pc_forward.specs.Forwarded.{Forwards}
use Rattle.pc_ranges.specs.Ranged.{LeavesRanged}
use Rattle.pc_scalar.specs.Cleared.{WritesAreLive}
use Rattle.pc_scalar.specs.Copied.{NamesNoCopy}
use Rattle.pc_scalar.specs.Folded.{IsFolded}
use Rattle.pc_scalar.specs.Leaves.{Leaves}
use Rattle.pc_scalar.specs.Valued.{ComputesNoneAgain}

-- what a pass does, between two graphs and from its count of changes before to that after
abbrev pub Doing : Type 1
Doing = FlowGraph → FlowGraph → ℕ → ℕ → Type 0

-- ---- the list

-- a pass has this name, has changed nothing yet, and does this
pub record IsFresh {P : Type 0} (label : P → List ℕ) (changed : P → ℕ) (does : P → Doing) (pass : P) (name : List ℕ) (Does : Doing) : Type 0 where
  pub named : label pass ≡ name
  pub unused : changed pass ≡ 0
  pub does_so : (old new : FlowGraph) (before now : ℕ) → does pass old new before now → Does old new before now

-- passes begin with such a one, and others follow
pub record First {P : Type 0} (label : P → List ℕ) (changed : P → ℕ) (does : P → Doing) (name : List ℕ) (Does : Doing) (Others : List P → Type 0) (passes : List P) : Type 0 where
  pub first : P
  pub others : List P
  pub are : passes ≡ first ∷ others
  pub fresh : IsFresh label changed does first name Does
  pub follow : Others others

-- there are no more
abbrev pub NoMore : {P : Type 0} → List P → Type 0
NoMore passes = passes ≡ []

-- passes are these, in this order, and have changed nothing yet
abbrev pub AreThePasses : {P : Type 0} → (P → List ℕ) → (P → ℕ) → (P → Doing) → List P → Type 0
AreThePasses label changed does =
    First label changed does (codes "fold") (Leaves IsFolded)
    (First label changed does (codes "ranges") LeavesRanged
    (First label changed does (codes "copies") (Leaves NamesNoCopy)
    (First label changed does (codes "values") (Leaves ComputesNoneAgain)
    (First label changed does (codes "forward") Forwards
    (First label changed does (codes "dead") (Leaves WritesAreLive)
    NoMore)))))

-- ---- what they make

-- A pass that had changed nothing yet made a graph of the first one, and others the last of that one; these are their counts of the nodes
-- that they changed or skipped.
pub record Then (Does : Doing) (Others : FlowGraph → FlowGraph → List ℕ → Type 0) (first last : FlowGraph) (counts : List ℕ) : Type 0 where
  pub mid : FlowGraph
  pub count : ℕ
  pub others : List ℕ
  pub are : counts ≡ count ∷ others
  pub does : Does first mid 0 count
  pub follow : Others mid last others

-- no pass follows
pub record Nothing_more (first last : FlowGraph) (counts : List ℕ) : Type 0 where
  pub same : last ≡ first
  pub none : counts ≡ []

-- The passes made the last graph of the first one, each of the graph that the one before it left.
abbrev pub IsMadeByThePasses : FlowGraph → FlowGraph → List ℕ → Type 0
IsMadeByThePasses =
    Then (Leaves IsFolded)
    (Then LeavesRanged
    (Then (Leaves NamesNoCopy)
    (Then (Leaves ComputesNoneAgain)
    (Then Forwards
    (Then (Leaves WritesAreLive)
    Nothing_more)))))
