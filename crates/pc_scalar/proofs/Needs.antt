-- Where what needless items read does not count, the sets that a backward analysis finds are those of needed variables.
use Rattle.std.proofs.Common.{◌≡◌, inl, inr, ℕ, ◌<◌, Bool, true, false, not, ◌&&◌, List, Option, Some, None, refl, ap, subst}
use Rattle.std.specs.Prelude.{IfSome, slice_get}
use Rattle.pc_word.specs.Items.{dest_of}
use Rattle.pc_word.specs.declared.item.Item.TheVariants.{Bin, Copy, Load, Store, Print, Read, More}
use Rattle.pc_word.proofs.Truth.{and_true, and_made, not_true, or_true}
use Rattle.pc_word.specs.declared.item.Item.{Item}
use Rattle.pc_flow.specs.declared.node.FlowNode.{FlowNode}
use Rattle.pc_flow.specs.declared.node.FlowNode.TheVariants.{Op, Test, Stop, Trap}
use Rattle.pc_flow.specs.FlowGraph.{FlowGraph, IsFlow, NodeFits, variables}
use Rattle.pc_live.specs.declared.variable_set.VariableSet.{VariableSet}
use Rattle.pc_live.specs.Live.{node_reads, node_writes}
use Rattle.pc_live.specs.Liveness.{member, set_at}
use Rattle.pc_live.specs.Backward.{behind, reads_counted, needs, IsSolution}
use Rattle.pc_live.proofs.Rounds.{behind_some, built_holds}
use Rattle.pc_scalar.specs.Cleared.{only_writes}
use Rattle.pc_scalar.specs.models.Needed.{IsNeeded, Read_always, Read_for, Read_behind, is_unwanted, is_needless, node_needless, kept_reads, AreNeeded}

-- the variable that an item only writes is there
pub only_fits : (item : Item) → IfSome (dest_of item) (λ name. name < variables) → (x : ℕ) → only_writes item ≡ Some x → x < variables
only_fits (Bin op dest left right) h x e = let same : dest ≡ x = (cc) in subst (λ (n : ℕ). n < variables) same h
only_fits (Copy dest from) h x e = let same : dest ≡ x = (cc) in subst (λ (n : ℕ). n < variables) same h
only_fits (Load dest array index) h x e = let same : dest ≡ x = (cc) in subst (λ (n : ℕ). n < variables) same h
only_fits (Store array index value) h x e = absurd (cc)
only_fits (Print value) h x e = absurd (cc)
only_fits (Read dest) h x e = absurd (cc)
only_fits (More dest) h x e = let same : dest ≡ x = (cc) in subst (λ (n : ℕ). n < variables) same h

-- ---- what a node needs

kept_member : (b : Bool) → not b ≡ false → b ≡ true
kept_member true e = refl
kept_member false e = cc

-- sets of variables that are needed
abbrev AreHeld : FlowGraph → List VariableSet → Type 0
AreHeld flow sets = (k x : ℕ) → x < variables → member (set_at sets k) x ≡ true → IsNeeded flow x k

-- what an item reads that is not needless
item_reads : (flow : FlowGraph) (sets : List VariableSet) (at to variable : ℕ) (item : Item) (dest : Option ℕ) → AreHeld flow sets
    → slice_get flow.nodes at ≡ Some (Op item to) → only_writes item ≡ dest → ((x : ℕ) → dest ≡ Some x → x < variables)
    → is_unwanted (set_at sets to) dest ≡ false → node_reads (Op item to) variable ≡ true
    → IsNeeded flow variable at
item_reads flow sets at to variable item None held there only fits kept reads = Read_always there only reads
item_reads flow sets at to variable item (Some dest) held there only fits kept reads =
    Read_for there only (held to dest (fits dest refl) (kept_member (member (set_at sets to) dest) kept)) reads

-- reads that count
counted_needed : (flow : FlowGraph) (sets : List VariableSet) (at variable : ℕ) (node : FlowNode) → AreHeld flow sets → NodeFits flow at node
    → slice_get flow.nodes at ≡ Some node → reads_counted kept_reads sets node variable ≡ true → IsNeeded flow variable at
counted_needed flow sets at variable (Op item to) held fits there h =
    let both = and_true (not (is_needless (set_at sets to) item)) (node_reads (Op item to) variable) h in
    item_reads flow sets at to variable item (only_writes item) held there refl (only_fits item fits.0.writes)
    (not_true (is_needless (set_at sets to) item) both.0) both.1
counted_needed flow sets at variable (Test on on_yes on_no turn) held fits there h = Read_always there refl h
counted_needed flow sets at variable Stop held fits there h = absurd (cc)
counted_needed flow sets at variable (Trap kind line) held fits there h = absurd (cc)

-- they are those of the nodes that are not needless
pub kept_counted : (sets : List VariableSet) (node : FlowNode) (variable : ℕ) → node_needless sets node ≡ false → node_reads node variable ≡ true
    → reads_counted kept_reads sets node variable ≡ true
kept_counted sets (Op item to) variable kept reads =
    and_made (not (is_needless (set_at sets to) item)) (node_reads (Op item to) variable) (ap not kept) reads
kept_counted sets (Test on on_yes on_no turn) variable kept reads = reads
kept_counted sets Stop variable kept reads = absurd (cc)
kept_counted sets (Trap kind line) variable kept reads = absurd (cc)

-- what a node needs is needed there
node_needed : (flow : FlowGraph) → IsFlow flow → (sets : List VariableSet) (at variable : ℕ) (node : FlowNode) → AreHeld flow sets → variable < variables
    → slice_get flow.nodes at ≡ Some node → needs kept_reads sets node variable ≡ true → IsNeeded flow variable at
node_needed flow is sets at variable node held small there h =
    elim (or_true (reads_counted kept_reads sets node variable) (not (node_writes node variable) && behind sets node variable) h) [
      | inl here ↦ counted_needed flow sets at variable node held (is.nodes_fit at node there) there here
      | inr later ↦
          let both = and_true (not (node_writes node variable)) (behind sets node variable) later in
          let some = behind_some sets node variable both.1 in
          Read_behind there (not_true (node_writes node variable) both.0) some.leads (held some.next variable small some.has)
    ]

-- so are all variables in the sets that a backward analysis finds
pub are_needed : (flow : FlowGraph) (sets : List VariableSet) → IsFlow flow → IsSolution kept_reads flow sets → AreNeeded flow sets
are_needed flow sets is solution = record {
  is_flow = is;
  as_many = solution.as_many;
  needed = built_holds kept_reads flow (λ x k. IsNeeded flow x k) (node_needed flow is) sets solution.built;
  closed = solution.closed;
}
