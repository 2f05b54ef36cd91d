-- Dead writes, and the graph without them.
use Rattle.std.proofs.Common.{◌≡◌, ◌≢◌, inl, inr, ℕ, ◌<◌, Bool, true, false, not, ◌&&◌, List, [], ◌∷◌, length, get_or, Option, Some, None, refl, sym, ◌∙◌, ap, subst, arith, eqb-true, true≢false}
use Rattle.std.specs.Prelude.{ℤ, if◌then◌else◌, nat_eq, slice_get, slice_index, IfSome}
use Rattle.std.specs.List.{AllByRecursion, list_any}
use Rattle.std.proofs.lemmas.Bool.{cases_eq}
use Rattle.std.proofs.lemmas.List.{get_or_default}
use Rattle.std.proofs.lemmas.Option.{slice_get_within}
use Rattle.pc_word.specs.declared.item.Item.{Item}
use Rattle.pc_word.specs.declared.item.Item.TheVariants.{Bin, Copy, Load, Store, Print, Read, More}
use Rattle.pc_word.specs.declared.item.Operand.{Operand}
use Rattle.pc_word.specs.declared.item.Operand.TheVariants.{Name, Lit}
use Rattle.pc_word.specs.State.{State, set_name}
use Rattle.pc_word.specs.Items.{operands_of, dest_of, reads_name}
use Rattle.pc_word.specs.Commit.{writes}
use Rattle.pc_word.specs.Row.{RowOutcome, Commits, item_step}
use Rattle.pc_word.proofs.Items.{item_step-is}
use Rattle.pc_word.proofs.Truth.{and_made, not_true, or_true, or_first, or_second}
use Rattle.pc_flow.specs.declared.node.FlowNode.{FlowNode}
use Rattle.pc_flow.specs.declared.node.FlowNode.TheVariants.{Op, Test, Stop, Trap}
use Rattle.pc_flow.specs.FlowGraph.{FlowGraph, IsVariable, IsTarget, HasEdge, NodeFits, IsFlow, tested_loop, variables}
use Rattle.pc_flow.specs.FlowRun.{step_after_item, run_node}
use Rattle.pc_live.specs.declared.variable_set.VariableSet.{VariableSet}
use Rattle.pc_live.specs.Live.{node_reads, node_writes, IsLive, Read_here, Read_later}
use Rattle.pc_live.specs.Liveness.{member, set_at}
use Rattle.pc_live.specs.Backward.{behind, reads_counted, needs_of}
use Rattle.pc_live.proofs.Logic.{place_within}
use Rattle.pc_live.proofs.Rounds.{some_behind}
use Rattle.pc_pass.specs.Pass.{Keeps}
use Rattle.pc_flow.specs.Reachable.{IsReachableNode, Behind}
use Rattle.pc_pass.specs.models.Change.{Change, LeadsPast, Past, Becomes, Does, Tests, Stops_too, Traps_too, IsSkipped, IsChange}
use Rattle.pc_pass.proofs.Changes.{change_agrees, change_paces, node_there, reachable_there}
use Rattle.pc_scalar.specs.declared.plan.Plan.{Plan}
use Rattle.pc_scalar.specs.Cleared.{only_writes, WritesAreLive}
use Rattle.pc_scalar.specs.LoopTests.{KeepsLoopTests}
use Rattle.pc_scalar.specs.Tally.{AreMany, IsWorkedOn}
use Rattle.pc_scalar.specs.models.Plan.{Fits, planned}
use Rattle.pc_scalar.specs.models.Ends.{Jump, FallsAlong, AreEnds, led}
use Rattle.pc_scalar.specs.models.Needed.{IsNeeded, Read_always, Read_for, Read_behind, is_unwanted, is_needless, node_only_writes, node_needless}
use Rattle.pc_scalar.specs.models.Needed.{kept_reads, AreNeeded, cleared, AreCleared, IsClearing}
use Rattle.pc_scalar.proofs.Chains.{one_end, stays_end, edge_led}
use Rattle.pc_scalar.proofs.Skipping.{sides_there, KeepsEdges, IsSkipping, mapped_made, new_there, new_made_of, new_as_many, skipping_fits, end_leads, reachable_stays, skipping_keeps_tests}
use Rattle.pc_scalar.proofs.Skipped.{Tells, skipping_counts}
use Rattle.pc_scalar.proofs.Needs.{only_fits, kept_counted}

-- ---- sets that lack nothing

module _ (flow : FlowGraph) (sets : List VariableSet) (are : AreNeeded flow sets) where
  -- what a node reads that is not needless is in its set
  pub reads_in : (at variable : ℕ) (node : FlowNode) → slice_get flow.nodes at ≡ Some node → variable < variables → node_needless sets node ≡ false
      → node_reads node variable ≡ true → member (set_at sets at) variable ≡ true
  reads_in at variable node there small kept reads =
      (are.closed at (place_within flow.nodes at node there)).lacks_none variable small
      (ap (λ (o : Option FlowNode). needs_of kept_reads sets o variable) there
      ∙ or_first (reads_counted kept_reads sets node variable) (not (node_writes node variable) && behind sets node variable)
      (kept_counted sets node variable kept reads))

  -- so is what is in a set after it, if it does not write that
  pub passes_in : (at next variable : ℕ) (node : FlowNode) → slice_get flow.nodes at ≡ Some node → variable < variables → node_writes node variable ≡ false
      → HasEdge node next → member (set_at sets next) variable ≡ true → member (set_at sets at) variable ≡ true
  passes_in at next variable node there small passed edge later =
      (are.closed at (place_within flow.nodes at node there)).lacks_none variable small
      (ap (λ (o : Option FlowNode). needs_of kept_reads sets o variable) there
      ∙ or_second (reads_counted kept_reads sets node variable) (not (node_writes node variable) && behind sets node variable)
      (and_made (not (node_writes node variable)) (behind sets node variable) (ap not passed) (some_behind sets node variable next edge later)))

-- ---- items that are kept, and items that are not

-- the node after an item has a set
pub behind_has_set : (flow : FlowGraph) (sets : List VariableSet) (at to : ℕ) (item : Item) → AreNeeded flow sets → slice_get flow.nodes at ≡ Some (Op item to)
    → to < length sets
behind_has_set flow sets at to item are there = let target = (are.is_flow.nodes_fit at (Op item to) there).1.target in omega (arith, target, are.as_many)

-- the variable that an item writes is there
pub writes_fit : (flow : FlowGraph) (sets : List VariableSet) (at to : ℕ) (item : Item) → AreNeeded flow sets → slice_get flow.nodes at ≡ Some (Op item to)
    → IfSome (dest_of item) (λ name. name < variables)
writes_fit flow sets at to item are there = (are.is_flow.nodes_fit at (Op item to) there).0.writes

-- an item that only writes a variable writes that one
only_dest : (item : Item) (dest : ℕ) → only_writes item ≡ Some dest → dest_of item ≡ Some dest
only_dest (Bin op d left right) dest e = e
only_dest (Copy d from) dest e = e
only_dest (Load d array index) dest e = e
only_dest (Store array index value) dest e = absurd (cc)
only_dest (Print value) dest e = absurd (cc)
only_dest (Read d) dest e = absurd (cc)
only_dest (More d) dest e = e

-- an item that writes one value into one variable
written : (lengths : List ℕ) (item : Item) (to : ℕ) (s : State) (d dest : ℕ) → Some d ≡ Some dest → (value : ℤ)
    → item_step lengths item to s ≡ Commits [] (set_name d value s) to → (v : ℤ) × (item_step lengths item to s ≡ Commits [] (set_name dest v s) to)
written lengths item to s d dest e value does =
    let same : d ≡ dest = (cc) in
    (value, does ∙ ap (λ (n : ℕ). let done : RowOutcome ℕ = Commits [] (set_name n value s) to in done) same)

-- and does nothing else
only_does : (lengths : List ℕ) (item : Item) (to : ℕ) (s : State) (dest : ℕ) → only_writes item ≡ Some dest
    → (value : ℤ) × (item_step lengths item to s ≡ Commits [] (set_name dest value s) to)
only_does lengths (Bin op d left right) to s dest e = written lengths (Bin op d left right) to s d dest e _ (item_step-is lengths (Bin op d left right) to s)
only_does lengths (Copy d from) to s dest e = written lengths (Copy d from) to s d dest e _ (item_step-is lengths (Copy d from) to s)
only_does lengths (Load d array index) to s dest e = written lengths (Load d array index) to s d dest e _ (item_step-is lengths (Load d array index) to s)
only_does lengths (Store array index value) to s dest e = absurd (cc)
only_does lengths (Print value) to s dest e = absurd (cc)
only_does lengths (Read d) to s dest e = absurd (cc)
only_does lengths (More d) to s dest e = written lengths (More d) to s d dest e _ (item_step-is lengths (More d) to s)

-- an item that only writes a variable that is not in the set after it
record IsNeedlessAt (flow : FlowGraph) (sets : List VariableSet) (at next : ℕ) : Type 0 where
  item : Item
  dest : ℕ
  there : slice_get flow.nodes at ≡ Some (Op item next)
  only : only_writes item ≡ Some dest
  unwanted : member (set_at sets next) dest ≡ false

unwanted_item : (flow : FlowGraph) (sets : List VariableSet) (at to : ℕ) (item : Item) (dest : Option ℕ) → slice_get flow.nodes at ≡ Some (Op item to)
    → only_writes item ≡ dest → is_unwanted (set_at sets to) dest ≡ true → IsNeedlessAt flow sets at to
unwanted_item flow sets at to item None there only e = absurd (cc)
unwanted_item flow sets at to item (Some dest) there only e =
    record { item = item; dest = dest; there = there; only = only; unwanted = not_true (member (set_at sets to) dest) e }

cleared_item : (flow : FlowGraph) (sets : List VariableSet) (at to : ℕ) (item : Item) (b : Bool) → slice_get flow.nodes at ≡ Some (Op item to)
    → is_needless (set_at sets to) item ≡ b → (if b then to else at) ≢ at → IsNeedlessAt flow sets at (if b then to else at)
cleared_item flow sets at to item true there e other = unwanted_item flow sets at to item (only_writes item) there refl e
cleared_item flow sets at to item false there e other = absurd (other refl)

-- a node whose place another takes is such an item
cleared_node : (flow : FlowGraph) (sets : List VariableSet) (at : ℕ) (node : FlowNode) → slice_get flow.nodes at ≡ Some node → cleared sets at node ≢ at
    → IsNeedlessAt flow sets at (cleared sets at node)
cleared_node flow sets at (Op item to) there other = cleared_item flow sets at to item (is_needless (set_at sets to) item) there refl other
cleared_node flow sets at (Test on on_yes on_no turn) there other = absurd (other refl)
cleared_node flow sets at Stop there other = absurd (other refl)
cleared_node flow sets at (Trap kind line) there other = absurd (other refl)

kept_place : (flow : FlowGraph) (at to : ℕ) (b : Bool) → slice_index flow.ranks to < slice_index flow.ranks at → (if b then to else at) ≡ at → b ≡ false
kept_place flow at to true lower e = let same = ap (slice_index flow.ranks) e in absurd (omega (arith, lower, same))
kept_place flow at to false lower e = refl

-- a node that keeps its place is not needless
kept_node : (flow : FlowGraph) (sets : List VariableSet) (at : ℕ) (node : FlowNode) → NodeFits flow at node → cleared sets at node ≡ at → node_needless sets node ≡ false
kept_node flow sets at (Op item to) fits e = kept_place flow at to (is_needless (set_at sets to) item) fits.1.lower e
kept_node flow sets at (Test on on_yes on_no turn) fits e = refl
kept_node flow sets at Stop fits e = refl
kept_node flow sets at (Trap kind line) fits e = refl

-- a node that is not needless keeps its place
place_kept : (sets : List VariableSet) (at : ℕ) (node : FlowNode) → node_needless sets node ≡ false → cleared sets at node ≡ at
place_kept sets at (Op item to) e = ap (λ (b : Bool). if b then to else at) e
place_kept sets at (Test on on_yes on_no turn) e = refl
place_kept sets at Stop e = refl
place_kept sets at (Trap kind line) e = refl

-- a node that does more than write a variable is not needless
more_kept : (sets : List VariableSet) (node : FlowNode) → node_only_writes node ≡ None → node_needless sets node ≡ false
more_kept sets (Op item to) e = ap (is_unwanted (set_at sets to)) e
more_kept sets (Test on on_yes on_no turn) e = refl
more_kept sets Stop e = refl
more_kept sets (Trap kind line) e = refl

-- nor is the test of a loop
loop_kept : (sets : List VariableSet) (turn : ℕ) (node : FlowNode) → tested_loop node ≡ Some turn → node_needless sets node ≡ false
loop_kept sets turn (Op item to) e = absurd (cc)
loop_kept sets turn (Test on on_yes on_no loop) e = refl
loop_kept sets turn Stop e = refl
loop_kept sets turn (Trap kind line) e = refl

kept_wanted : (b : Bool) → not b ≡ false → b ≡ true
kept_wanted true e = refl
kept_wanted false e = cc

-- nor is an item that writes what is in the set after it
wanted_kept : (sets : List VariableSet) (item : Item) (to dest : ℕ) → only_writes item ≡ Some dest → member (set_at sets to) dest ≡ true
    → node_needless sets (Op item to) ≡ false
wanted_kept sets item to dest only wanted = ap (is_unwanted (set_at sets to)) only ∙ ap not wanted

-- what is read is a variable
pub read_small : (operand : Operand) (x : ℕ) → IsVariable operand → reads_name operand x ≡ true → x < variables
read_small (Name name) x small e = subst (λ (n : ℕ). n < variables) (eqb-true name x e) small
read_small (Lit value) x small e = absurd (cc)

pub reads_small : (operands : List Operand) (x : ℕ) → AllByRecursion IsVariable operands → list_any (λ operand. reads_name operand x) operands ≡ true → x < variables
reads_small [] x small e = absurd (cc)
reads_small (operand ∷ operands) x small e = elim (or_true (reads_name operand x) (list_any (λ o. reads_name o x) operands) e) [
  | inl h ↦ read_small operand x small.0 h
  | inr h ↦ reads_small operands x small.1 h
]

-- a name that is not written keeps its value
unwritten : (b : Bool) (value old : ℤ) → b ≡ false → (if b then value else old) ≡ old
unwritten true value old e = absurd (cc)
unwritten false value old e = refl

-- a variable that is in a set is not one that is not
apart : (set : VariableSet) (dest x : ℕ) (b : Bool) → nat_eq dest x ≡ b → member set dest ≡ false → member set x ≡ true → b ≡ false
apart set dest x true e lacks has =
    let both : member set dest ≡ member set x = ap (member set) (eqb-true dest x e) in
    absurd (true≢false (sym has ∙ sym both ∙ lacks))
apart set dest x false e lacks has = refl

module _ (flow : FlowGraph) (sets : List VariableSet) (table : List ℕ) (needs : AreNeeded flow sets) (are : AreCleared flow sets table) where
  jump_needless : (at : ℕ) → at < length flow.nodes → slice_index table at ≢ at → IsNeedlessAt flow sets at (slice_index table at)
  jump_needless at there other =
      let found = node_there flow.nodes at there in
      let is = are.each at found.0 found.1 in
      subst (IsNeedlessAt flow sets at) (sym is) (cleared_node flow sets at found.0 found.1 (λ same. other (is ∙ same)))

  table_there : (at : ℕ) → at < length flow.nodes → slice_index table at < length table
  table_there at low = elim (cases_eq (slice_index table at) at) [
    | inl same ↦ omega (arith, are.as_many, same)
    | inr other ↦
        let it = jump_needless at low other in
        let target = (needs.is_flow.nodes_fit at (Op it.item (slice_index table at)) it.there).1.target in
        omega (arith, are.as_many, target)
  ]

  -- along the table the rank falls
  pub cleared_falls : FallsAlong flow table
  cleared_falls = record {
    as_many = are.as_many;
    there = λ at low. table_there at (omega (arith, are.as_many));
    falls = λ at low other.
        let it = jump_needless at (omega (arith, are.as_many)) other in
        (needs.is_flow.nodes_fit at (Op it.item (slice_index table at)) it.there).1.lower;
  }

-- the end that is read for the entry
pub entry_end : (flow : FlowGraph) (sets : List VariableSet) (table ends : List ℕ) (entry end : ℕ) → AreNeeded flow sets → AreCleared flow sets table → AreEnds table ends
    → entry ≡ flow.entry → end ≡ get_or ends entry end → end ≡ slice_index ends flow.entry
entry_end flow sets table ends entry end needed cleared are is e =
    e ∙ ap (λ (n : ℕ). get_or ends n end) is ∙ get_or_default ends flow.entry end 0 (omega (arith, needed.is_flow.begins, cleared.as_many, are.as_many))

-- ---- the cleared graph

-- the nodes stay as they are, but for their edges
same_keeps : (flow : FlowGraph) → KeepsEdges flow (λ at node. node)
same_keeps flow = record { fits = λ at node h. h; turn = λ at node. refl; edge = λ at node to h. h; edge_from = λ at node to h. h }

is_skipping : (flow : FlowGraph) (plan : Plan) (is : IsClearing flow plan) → IsSkipping flow plan is.table is.ends (λ at node. node)
is_skipping flow plan is = record {
  is_flow = is.are_needed.is_flow;
  falls = cleared_falls flow is.sets is.table is.are_needed is.are_cleared;
  are_ends = is.are_ends;
  nodes = mapped_made flow is.ends (λ node. node) plan.nodes is.nodes;
  entry = is.entry;
  keeps = same_keeps flow;
}

led_reads : (ends : List ℕ) (node : FlowNode) (x : ℕ) → node_reads (led ends node) x ≡ node_reads node x
led_reads ends (Op item to) x = refl
led_reads ends (Test on on_yes on_no turn) x = refl
led_reads ends Stop x = refl
led_reads ends (Trap kind line) x = refl

led_writes : (ends : List ℕ) (node : FlowNode) (x : ℕ) → node_writes (led ends node) x ≡ node_writes node x
led_writes ends (Op item to) x = refl
led_writes ends (Test on on_yes on_no turn) x = refl
led_writes ends Stop x = refl
led_writes ends (Trap kind line) x = refl

module _ (flow : FlowGraph) (plan : Plan) (is : IsClearing flow plan) where
  abbrev new : FlowGraph
  new = planned plan flow

  -- the plan fits
  pub clearing_fits : Fits flow plan
  clearing_fits = skipping_fits flow plan is.table is.ends (λ at node. node) (is_skipping flow plan is)

  is_flow : IsFlow flow
  is_flow = is.are_needed.is_flow

  place_stays : (at : ℕ) (node : FlowNode) → slice_get flow.nodes at ≡ Some node → node_needless is.sets node ≡ false → slice_index is.table at ≡ at
  place_stays at node there kept = is.are_cleared.each at node there ∙ place_kept is.sets at node kept

  stays_kept : (at : ℕ) (node : FlowNode) → slice_get flow.nodes at ≡ Some node → slice_index is.table at ≡ at → node_needless is.sets node ≡ false
  stays_kept at node there stays = kept_node flow is.sets at node (is_flow.nodes_fit at node there) (sym (is.are_cleared.each at node there) ∙ stays)

  leads : (to : ℕ) → IsTarget flow to → LeadsPast (Jump is.table) to (slice_index is.ends to)
  leads = end_leads flow plan is.table is.ends (λ at node. node) (is_skipping flow plan is)

  -- ---- it shows what the graph shows

  -- every state is possible, and what is in the sets matters
  abbrev change : Change
  change = record {
    old = flow;
    new = new;
    Skips = Jump is.table;
    Knows = λ at s. Unit {0};
    Matters = λ at x. (x < variables) × (member (set_at is.sets at) x ≡ true);
  }

  passes : (at to : ℕ) (node : FlowNode) → slice_get flow.nodes at ≡ Some node → HasEdge node to → (x : ℕ) → node_writes node x ≡ false
      → (x < variables) × (member (set_at is.sets to) x ≡ true) → (x < variables) × (member (set_at is.sets at) x ≡ true)
  passes at to node there edge x passed m = (m.0, passes_in flow is.sets is.are_needed at to x node there m.0 passed edge m.1)

  node_becomes : (at : ℕ) (node : FlowNode) → slice_get flow.nodes at ≡ Some node → NodeFits flow at node → node_needless is.sets node ≡ false
      → Becomes change at node (led is.ends node)
  node_becomes at (Op item to) there fits kept = Does (record {
    leads = leads to fits.1.target;
    same_dest = refl;
    does_same = λ s known. refl;
    reads = λ x h. let small = reads_small (operands_of item) x fits.0.reads h in (small, reads_in flow is.sets is.are_needed at x (Op item to) there small kept h);
    passes = λ x h m. passes at to (Op item to) there refl x h m;
    knows = λ s after printed known h. tt;
  })
  node_becomes at (Test on on_yes on_no turn) there fits kept =
      let sides = sides_there flow at on_yes on_no turn fits.1 in
      Tests (record {
        same_value = λ s known. refl;
        reads = λ x h. let small = read_small on x fits.0 h in (small, reads_in flow is.sets is.are_needed at x (Test on on_yes on_no turn) there small kept h);
      })
      (record { leads = leads on_yes sides.0; passes = λ x m. passes at on_yes (Test on on_yes on_no turn) there (inl refl) x refl m; knows = λ s h side. tt })
      (record { leads = leads on_no sides.1; passes = λ x m. passes at on_no (Test on on_yes on_no turn) there (inr refl) x refl m; knows = λ s h side. tt })
  node_becomes at Stop there fits kept = Stops_too
  node_becomes at (Trap kind line) there fits kept = Traps_too

  -- an item that is needless writes nothing that matters after it
  skips : (at next : ℕ) → IsReachableNode flow at → Jump is.table at next → IsSkipped change at next
  skips at next reached jump =
      let there = reachable_there flow at is_flow reached in
      let jumped = jump_needless flow is.sets is.table is.are_needed is.are_cleared at there (λ same. jump.other (sym jump.leads ∙ same)) in
      let it : IsNeedlessAt flow is.sets at next = subst (IsNeedlessAt flow is.sets at) jump.leads jumped in
      record {
        lower = (is_flow.nodes_fit at (Op it.item next) it.there).1.lower;
        reached = λ h. Behind h it.there refl;
        passes = λ x m. passes at next (Op it.item next) it.there refl x
            (ap (λ (d : Option ℕ). writes d x) (only_dest it.item it.dest it.only) ∙ apart (set_at is.sets next) it.dest x (nat_eq it.dest x) refl it.unwanted m.1) m;
        does_nothing = λ s known.
            let does = only_does flow.arrays it.item next s it.dest it.only in
            record {
              after = set_name it.dest does.0 s;
              steps = ap (run_node flow.arrays s) it.there ∙ ap step_after_item does.1;
              known = tt;
              same_cells = refl;
              same_input = refl;
              same_names = λ x m. unwritten (nat_eq it.dest x) does.0 (s.names x) (apart (set_at is.sets next) it.dest x (nat_eq it.dest x) refl it.unwanted m.1);
            };
      }

  no_jump : (at : ℕ) → ((next : ℕ) → Jump is.table at next → ⊥) → slice_index is.table at ≡ at
  no_jump at none = elim (cases_eq (slice_index is.table at) at) [
    | inl same ↦ same
    | inr other ↦ absurd (none (slice_index is.table at) (record { leads = refl; other = other }))
  ]

  is_change : IsChange change
  is_change = record {
    is_flow = is_flow;
    same_arrays = refl;
    same_initial = refl;
    begins = rw is.entry (leads flow.entry is_flow.begins);
    known_first = λ input words. tt;
    skips = skips;
    becomes = λ at node reached there none. record {
      other = led is.ends node;
      there = new_there flow plan is.table is.ends (λ at n. n) (is_skipping flow plan is) at node there;
      becomes = node_becomes at node there (is_flow.nodes_fit at node there) (stays_kept at node there (no_jump at none));
    };
  }

  pub clearing_keeps : Keeps flow new
  clearing_keeps = record {
    agrees = change_agrees change is_change;
    pace = change_paces change is_change;
    as_many = new_as_many flow plan is.table is.ends (λ at node. node) (is_skipping flow plan is);
    same_loops = refl;
    same_inside = refl;
    same_arrays = refl;
    same_initial = refl;
  }

  -- ---- what is left is live

  -- what is needed is in the sets
  has_needed : (x at : ℕ) → x < variables → IsNeeded flow x at → member (set_at is.sets at) x ≡ true
  has_needed x _ small (Read_always {at = at} {node = node} there more reads) =
      reads_in flow is.sets is.are_needed at x node there small (more_kept is.sets node more) reads
  has_needed x _ small (Read_for {at = at} {to = to} {dest = dest} {item = item} there only needed reads) =
      let fits = (is_flow.nodes_fit at (Op item to) there).0.writes in
      let wanted = has_needed dest to (only_fits item fits dest only) needed in
      reads_in flow is.sets is.are_needed at x (Op item to) there small (wanted_kept is.sets item to dest only wanted) reads
  has_needed x _ small (Read_behind {at = at} {next = next} {node = node} there passed edge needed) =
      passes_in flow is.sets is.are_needed at next x node there small passed edge (has_needed x next small needed)

  -- a node that stays is where its edges lead to
  end_is : (at : ℕ) → IsTarget flow at → slice_index is.table at ≡ at → slice_index is.ends at ≡ at
  end_is at there stays = stays_end is.table at (slice_index is.ends at) stays (leads at there).way

  -- a node that reads and is kept
  read_live : (x at : ℕ) (node : FlowNode) → slice_get flow.nodes at ≡ Some node → node_needless is.sets node ≡ false → node_reads node x ≡ true
      → IsLive new x (slice_index is.ends at)
  read_live x at node there kept reads =
      let stands = new_there flow plan is.table is.ends (λ at n. n) (is_skipping flow plan is) at node there in
      subst (IsLive new x) (sym (end_is at (slice_get_within flow.nodes at node there) (place_stays at node there kept)))
      (Read_here stands (led_reads is.ends node x ∙ reads))

  pass_live : (x at next : ℕ) (node : FlowNode) → slice_get flow.nodes at ≡ Some node → HasEdge node next → node_writes node x ≡ false
      → IsLive new x (slice_index is.ends next) → IsLive new x (slice_index is.ends at)
  pass_live x at next node there edge passed later = elim (cases_eq (slice_index is.table at) at) [
    | inl same ↦
        let stands = new_there flow plan is.table is.ends (λ at n. n) (is_skipping flow plan is) at node there in
        subst (IsLive new x) (sym (end_is at (slice_get_within flow.nodes at node there) same))
        (Read_later stands (led_writes is.ends node x ∙ passed) (edge_led is.ends node next edge) later)
    | inr other ↦
        let within = slice_get_within flow.nodes at node there in
        let it = jump_needless flow is.sets is.table is.are_needed is.are_cleared at within other in
        let same_node : Op it.item (slice_index is.table at) ≡ node = (cc) in
        let leads_on : slice_index is.table at ≡ next = subst (λ (n : FlowNode). HasEdge n next → slice_index is.table at ≡ next) same_node (λ e. e) edge in
        let target : IsTarget flow next = subst (IsTarget flow) leads_on (is_flow.nodes_fit at (Op it.item (slice_index is.table at)) it.there).1.target in
        let here = is.are_ends.each at (omega (arith, is.are_cleared.as_many, within)) in
        let behind_it = is.are_ends.each next (omega (arith, is.are_cleared.as_many, target)) in
        let jump : Jump is.table at next = record { leads = leads_on; other = λ e. other (leads_on ∙ e) } in
        subst (IsLive new x) (sym (one_end is.table at (slice_index is.ends at) (slice_index is.ends next) here.leads here.stays (Past jump behind_it.leads) behind_it.stays)) later
  ]

  -- what was needed is live in the new graph
  needed_live : (x at : ℕ) → IsNeeded flow x at → IsLive new x (slice_index is.ends at)
  needed_live x _ (Read_always {at = at} {node = node} there more reads) = read_live x at node there (more_kept is.sets node more) reads
  needed_live x _ (Read_for {at = at} {to = to} {dest = dest} {item = item} there only needed reads) =
      let fits = (is_flow.nodes_fit at (Op item to) there).0.writes in
      read_live x at (Op item to) there (wanted_kept is.sets item to dest only (has_needed dest to (only_fits item fits dest only) needed)) reads
  needed_live x _ (Read_behind {at = at} {next = next} {node = node} there passed edge needed) =
      pass_live x at next node there edge passed (needed_live x next needed)

  -- so what an item that is kept writes is live after it
  kept_live : (at to dest : ℕ) (item : Item) (node : FlowNode) → slice_get flow.nodes at ≡ Some node → led is.ends node ≡ Op item to → slice_index is.table at ≡ at
      → only_writes item ≡ Some dest → IsLive new dest to
  kept_live at to dest item (Op old next) there e stays only =
      let same : old ≡ item = (cc) in
      let end : slice_index is.ends next ≡ to = (cc) in
      let only_old : only_writes old ≡ Some dest = ap only_writes same ∙ only in
      let fits = (is_flow.nodes_fit at (Op old next) there).0.writes in
      let kept = stays_kept at (Op old next) there stays in
      let wanted : member (set_at is.sets next) dest ≡ true = kept_wanted (member (set_at is.sets next) dest) (sym (ap (is_unwanted (set_at is.sets next)) only_old) ∙ kept) in
      subst (IsLive new dest) end (needed_live dest next (is.are_needed.needed next dest (only_fits old fits dest only_old) wanted))
  kept_live at to dest item (Test on on_yes on_no turn) there e stays only = absurd (cc)
  kept_live at to dest item Stop there e stays only = absurd (cc)
  kept_live at to dest item (Trap kind line) there e stays only = absurd (cc)

  pub clearing_clears : WritesAreLive new
  clearing_clears = record {
    live = λ at to dest item reached there only.
        let before = new_made_of flow plan is.table is.ends (λ at n. n) (is_skipping flow plan is) at (Op item to) there in
        kept_live at to dest item before.0 before.1 before.2 (reachable_stays flow plan is.table is.ends (λ at n. n) (is_skipping flow plan is) at reached) only;
  }

  -- no test is skipped
  pub clearing_keeps_tests : KeepsLoopTests flow new
  clearing_keeps_tests = skipping_keeps_tests flow plan is.table is.ends (λ at node. node) (is_skipping flow plan is)
      (λ to turn test. place_stays to test.node test.there (loop_kept is.sets turn test.node test.tests))

  -- ---- what is counted

  -- a needless item is skipped
  clearing_works : (at : ℕ) (node : FlowNode) → slice_get flow.nodes at ≡ Some node → node_needless is.sets node ≡ true → slice_index is.table at ≢ at
  clearing_works at node there e stays = true≢false (sym e ∙ stays_kept at node there stays)

  clearing_tells : Tells flow is.table (λ at node. node) (λ at. node_needless is.sets)
  clearing_tells = record {
    worked = λ at node there e. inr (clearing_works at node there e);
    left = λ at node there e. (refl, place_stays at node there e);
  }

  pub clearing_counts : AreMany (IsWorkedOn flow new) (length flow.nodes) plan.changed
  clearing_counts = skipping_counts flow plan is.table is.ends (λ at node. node) (is_skipping flow plan is) (λ at. node_needless is.sets) clearing_tells is.changed

pub ruleset place_laws = (behind_has_set, writes_fit)

pub ruleset plan_laws = (cleared_falls)

pub ruleset clear_laws = (clearing_fits, clearing_keeps, clearing_clears, clearing_keeps_tests, clearing_counts)
