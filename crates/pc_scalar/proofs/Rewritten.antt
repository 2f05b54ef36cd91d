-- The graph whose nodes are rewritten by what is known there.
use Rattle.std.proofs.Common.{◌≡◌, inl, inr, ℕ, ◌<◌, List, replicate, Option, Some, None, refl, sym, ◌∙◌, ap, subst, arith}
use Rattle.std.specs.Prelude.{ℤ, slice_get}
use Rattle.std.proofs.lemmas.Option.{slice_get_within, slice_get-get_or}
use Rattle.std.proofs.lemmas.List.{length-replicate, get_or-replicate}
use Rattle.pc_word.specs.declared.item.Item.{Item}
use Rattle.pc_word.specs.State.{State, start_state}
use Rattle.pc_word.specs.Row.{Commits, item_step}
use Rattle.pc_flow.specs.declared.node.FlowNode.{FlowNode}
use Rattle.pc_flow.specs.declared.node.FlowNode.TheVariants.{Op, Test, Stop, Trap}
use Rattle.pc_flow.specs.FlowGraph.{FlowGraph, HasEdge, tested_loop, variables}
use Rattle.pc_pass.specs.Pass.{Keeps}
use Rattle.pc_flow.specs.Reachable.{IsReachableNode, Entry, Behind}
use Rattle.pc_pass.specs.models.Change.{Change, Here, LeadsPast, Becomes, Does, Tests, Stops_too, Traps_too, IsChange}
use Rattle.pc_pass.proofs.Changes.{change_agrees, change_paces}
use Rattle.pc_scalar.specs.declared.plan.Plan.{Plan}
use Rattle.pc_scalar.specs.declared.rule.Rule.{Rule}
use Rattle.pc_scalar.specs.LoopTests.{KeepsLoopTests}
use Rattle.pc_scalar.specs.models.Plan.{planned}
use Rattle.pc_scalar.specs.models.Known.{after, rewritten_item, rewritten, none_known, KnownAt, At_head, Behind_item}
use Rattle.pc_scalar.specs.models.Rewriting.{IsRewriting}
use Rattle.pc_scalar.proofs.Rewrites.{rewritten_dest}
use Rattle.pc_scalar.proofs.Knowing.{KnownHolds, after_holds, rewritten_does, rewritten_value}

-- ---- a rewritten node keeps its edges

rewritten_edge : (rule : Rule) (known : List (Option Item)) (node : FlowNode) (to : ℕ) → HasEdge node to → HasEdge (rewritten rule known node) to
rewritten_edge rule known (Op item next) to e = e
rewritten_edge rule known (Test on on_yes on_no turn) to e = e
rewritten_edge rule known Stop to e = e
rewritten_edge rule known (Trap kind line) to e = e

rewritten_edge_from : (rule : Rule) (known : List (Option Item)) (node : FlowNode) (to : ℕ) → HasEdge (rewritten rule known node) to → HasEdge node to
rewritten_edge_from rule known (Op item next) to e = e
rewritten_edge_from rule known (Test on on_yes on_no turn) to e = e
rewritten_edge_from rule known Stop to e = e
rewritten_edge_from rule known (Trap kind line) to e = e

pub rewritten_turn : (rule : Rule) (known : List (Option Item)) (node : FlowNode) → tested_loop (rewritten rule known node) ≡ tested_loop node
rewritten_turn rule known (Op item next) = refl
rewritten_turn rule known (Test on on_yes on_no turn) = refl
rewritten_turn rule known Stop = refl
rewritten_turn rule known (Trap kind line) = refl

-- nothing is skipped
abbrev no_skip : ℕ → ℕ → Type 0
no_skip at next = ⊥

leads_there : (to : ℕ) → LeadsPast no_skip to to
leads_there to = record { way = Here; stays = λ next h. h }

pub none_there : (n x : ℕ) (item : Item) → slice_get (replicate n (let none : Option Item = None in none)) x ≡ Some (Some item) → ⊥
none_there n x item e =
    let none : Option Item = None in
    let within = slice_get_within (replicate n none) x (Some item) e in
    let low : x < n = omega (arith, within, length-replicate n none) in
    let is = slice_get-get_or (replicate n none) x none within ∙ ap (λ (o : Option Item). Some o) (get_or-replicate n x none none low) in
    cc

-- nothing known holds of every state
none_holds : (s : State) → KnownHolds none_known s
none_holds s = record { holds = λ x item e. absurd (none_there variables x item e) }

module _ (flow : FlowGraph) (rule : Rule) (plan : Plan) (is : IsRewriting flow rule plan) where
  abbrev new : FlowGraph
  new = planned plan flow

  -- ---- it shows what the graph shows

  -- what is known at a node holds there, and all variables matter
  abbrev change : Change
  change = record {
    old = flow;
    new = new;
    Skips = no_skip;
    Knows = λ at s. (known : List (Option Item)) → KnownAt flow rule at known → KnownHolds known s;
    Matters = λ at x. Unit {0};
  }

  -- what is known after an item
  knows_behind : (at to : ℕ) (item : Item) (s t : State) (printed : List ℤ) → IsReachableNode flow at → slice_get flow.nodes at ≡ Some (Op item to)
      → ((known : List (Option Item)) → KnownAt flow rule at known → KnownHolds known s) → item_step flow.arrays item to s ≡ Commits printed t to
      → (known : List (Option Item)) → KnownAt flow rule to known → KnownHolds known t
  knows_behind at _ item s t printed reached there knows step _ (At_head alone) = none_holds t
  knows_behind at _ item s t printed reached there knows step _ (Behind_item {from = from} {at = to} {known = known} {item = other} f stands before) =
      let same : at ≡ from = f.only at (Op item to) reached there refl in
      let stands_here = subst (λ (n : ℕ). slice_get flow.nodes n ≡ Some (Op other to)) (sym same) stands in
      let is_item : item ≡ other = (let e : Op item to ≡ Op other to = (cc) in cc) in
      let holds = knows known (subst (λ (n : ℕ). KnownAt flow rule n known) (sym same) before) in
      subst (λ (i : Item). KnownHolds (after (rewritten_item rule known i) known) t) is_item
      (after_holds flow.arrays (rewritten_item rule known item) known to s t printed holds (rewritten_does known s holds flow.arrays rule item to ∙ step))

  -- what is known on a side of a test
  knows_side : (at to : ℕ) (node : FlowNode) (s : State) → IsReachableNode flow at → slice_get flow.nodes at ≡ Some node → HasEdge node to
      → ((item : Item) (next : ℕ) → node ≡ Op item next → ⊥) → (known : List (Option Item)) → KnownAt flow rule to known → KnownHolds known s
  knows_side at _ node s reached there edge no_item _ (At_head alone) = none_holds s
  knows_side at _ node s reached there edge no_item _ (Behind_item {from = from} {at = to} {item = other} f stands before) =
      let same : at ≡ from = f.only at node reached there edge in
      let stands_here = subst (λ (n : ℕ). slice_get flow.nodes n ≡ Some (Op other to)) (sym same) stands in
      let is_item : node ≡ Op other to = (cc) in
      absurd (no_item other to is_item)

  node_becomes : (at : ℕ) (known : List (Option Item)) (node : FlowNode) → IsReachableNode flow at → slice_get flow.nodes at ≡ Some node → KnownAt flow rule at known
      → Becomes change at node (rewritten rule known node)
  node_becomes at known (Op item to) reached there known_at = Does (record {
    leads = leads_there to;
    same_dest = rewritten_dest rule known item;
    does_same = λ s knows. rewritten_does known s (knows known known_at) flow.arrays rule item to;
    reads = λ x h. tt;
    passes = λ x h m. tt;
    knows = λ s t printed knows step. knows_behind at to item s t printed reached there knows step;
  })
  node_becomes at known (Test on on_yes on_no turn) reached there known_at =
      Tests (record { same_value = λ s knows. rewritten_value known s (knows known known_at) rule on; reads = λ x h. tt })
      (record { leads = leads_there on_yes; passes = λ x m. tt; knows = λ s knows side. knows_side at on_yes (Test on on_yes on_no turn) s reached there (inl refl) (λ item next e. cc) })
      (record { leads = leads_there on_no; passes = λ x m. tt; knows = λ s knows side. knows_side at on_no (Test on on_yes on_no turn) s reached there (inr refl) (λ item next e. cc) })
  node_becomes at known Stop reached there known_at = Stops_too
  node_becomes at known (Trap kind line) reached there known_at = Traps_too

  known_entry : (s : State) (at : ℕ) → at ≡ flow.entry → (known : List (Option Item)) → KnownAt flow rule at known → KnownHolds known s
  known_entry s _ e _ (At_head alone) = none_holds s
  known_entry s _ e _ (Behind_item f stands before) = absurd (f.not_entry e)

  is_change : IsChange change
  is_change = record {
    is_flow = is.is_flow;
    same_arrays = refl;
    same_initial = refl;
    begins = subst (LeadsPast no_skip flow.entry) (sym is.entry) (leads_there flow.entry);
    known_first = λ input words. known_entry (start_state flow.initial input) flow.entry refl;
    skips = λ at next reached h. absurd h;
    becomes = λ at node reached there none.
        let w = is.written at reached in
        let same : w.node ≡ node = (let a = w.there in cc) in
        record {
          other = rewritten rule w.known node;
          there = w.stands ∙ ap (λ (n : FlowNode). Some (rewritten rule w.known n)) same;
          becomes = node_becomes at w.known node reached there w.known_at;
        };
  }

  pub rewriting_keeps : Keeps flow new
  rewriting_keeps = record {
    agrees = change_agrees change is_change;
    pace = change_paces change is_change;
    as_many = is.rewrites.as_many;
    same_loops = refl;
    same_inside = refl;
    same_arrays = refl;
    same_initial = refl;
  }

  -- ---- tests of loops

  -- each node is as it was or rewritten, with the edges and the turn that it had
  pub changed_edge : (at to : ℕ) (node : FlowNode) → slice_get flow.nodes at ≡ Some node → HasEdge node to → (other : FlowNode) × (slice_get new.nodes at ≡ Some other) × HasEdge other to
  changed_edge at to node there edge = elim (is.rewrites.each at node there) [
    | inl same ↦ (node, same, edge)
    | inr w ↦
        let is_node : w.node ≡ node = (let a = w.there in cc) in
        (rewritten rule w.known w.node, w.stands, rewritten_edge rule w.known w.node to (subst (λ (n : FlowNode). HasEdge n to) (sym is_node) edge))
  ]

  changed_turn : (at : ℕ) (node : FlowNode) → slice_get flow.nodes at ≡ Some node → (other : FlowNode) × (slice_get new.nodes at ≡ Some other) × (tested_loop other ≡ tested_loop node)
  changed_turn at node there = elim (is.rewrites.each at node there) [
    | inl same ↦ (node, same, refl)
    | inr w ↦
        let is_node : w.node ≡ node = (let a = w.there in cc) in
        (rewritten rule w.known w.node, w.stands, rewritten_turn rule w.known w.node ∙ ap tested_loop is_node)
  ]

  pub rewriting_keeps_tests : KeepsLoopTests flow new
  rewriting_keeps_tests = record {
    stay = λ at turn test.
        let it = changed_turn at test.node test.there in
        record { node = it.0; there = it.1; tests = it.2 ∙ test.tests };
    led = λ from to turn test edge.
        let it = changed_edge from to edge.node edge.there edge.edge in
        record { node = it.0; there = it.1; edge = it.2 };
    begins = λ turn test. is.entry;
  }

  -- ---- the same nodes can be reached

  pub reached_before : (at : ℕ) → IsReachableNode new at → IsReachableNode flow at
  reached_before _ Entry = subst (IsReachableNode flow) (sym is.entry) Entry
  reached_before _ (Behind {from = from} {to = at} {node = node} before there edge) =
      let was = reached_before from before in
      let w = is.written from was in
      let same : rewritten rule w.known w.node ≡ node = (let a = w.stands in cc) in
      Behind was w.there (rewritten_edge_from rule w.known w.node at (subst (λ (n : FlowNode). HasEdge n at) (sym same) edge))

  pub reached_after : (at : ℕ) → IsReachableNode flow at → IsReachableNode new at
  reached_after _ Entry = subst (IsReachableNode new) is.entry Entry
  reached_after _ (Behind {from = from} {to = at} {node = node} before there edge) =
      let it = changed_edge from at node there edge in
      Behind (reached_after from before) it.1 it.2
