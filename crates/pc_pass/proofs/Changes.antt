-- A graph that is made of another one node by node shows what that one shows, and is no slower.
use Rattle.std.proofs.Common.{◌≡◌, ◌⊎◌, inl, inr, ℕ, zero, suc, ◌<◌, Bool, true, false, List}
use Rattle.std.proofs.Common.{[], ◌∷◌, length, Option, Some, None, refl, sym, ◌∙◌, ap, subst, append-nil, arith}
use Rattle.std.specs.Prelude.{ℤ, All, if◌then◌else◌, slice_get, slice_index}
use Rattle.pc_word.specs.declared.item.Item.{Item}
use Rattle.pc_word.specs.declared.item.Operand.{Operand}
use Rattle.pc_word.specs.declared.item.MachineFault.{MachineFault}
use Rattle.pc_word.specs.declared.item.End.{End}
use Rattle.pc_word.specs.declared.item.End.TheVariants.{Fault}
use Rattle.pc_word.specs.Word.{IsWord, holds}
use Rattle.pc_word.specs.Data.{first_cells}
use Rattle.pc_word.specs.Run.{Answers, AgreeOnInputs, Step, Goes, Stops, after_printing, seen_of, run_from, reach, reached_of}
use Rattle.pc_word.specs.State.{State}
use Rattle.pc_word.specs.Items.{operand_value, operands_of, dest_of}
use Rattle.pc_word.specs.Commit.{writes, fault_of}
use Rattle.pc_word.specs.Row.{RowOutcome, Faults, Commits, commit_of, item_step}
use Rattle.pc_word.specs.Laws.{does_alone}
use Rattle.pc_word.specs.models.Simulation.{Meet, MeetsAgain, MeetsLower}
use Rattle.pc_word.proofs.Items.{item_step-is}
use Rattle.pc_word.proofs.Runs.{Begins-refl, Answers-after, Answers-trans, run_from-answers, Agree-sym, Agree-simulated_in_time}
use Rattle.pc_flow.specs.declared.node.FlowNode.{FlowNode}
use Rattle.pc_flow.specs.declared.node.FlowNode.TheVariants.{Op, Test, Stop, Trap}
use Rattle.pc_flow.specs.FlowGraph.{FlowGraph, IsFlow, IsTarget, HasEdge, TestFits, NodeFits}
use Rattle.pc_flow.specs.FlowRun.{FlowState, step_after_item, run_node, flow_step, flow_start, flow_run}
use Rattle.pc_live.proofs.Dead.{Same, operand_same, operands_same, StatesAlike, OutcomesAlike, does_alike}
use Rattle.pc_flow.specs.Reachable.{IsReachableNode, Entry, Behind}
use Rattle.pc_pass.specs.models.Change.{Change, Way, Here, Past, AlikeIn, Corresponds, ItemBecomes, SideBecomes, Becomes, Does, Tests, Stops_too, Traps_too}
use Rattle.pc_pass.specs.models.Change.{IsChange}

-- ---- nodes that can be reached

test_targets : (flow : FlowGraph) (from on_yes on_no to : ℕ) (turn : Option ℕ) → TestFits flow from on_yes on_no turn
    → (on_yes ≡ to) ⊎ (on_no ≡ to) → IsTarget flow to
test_targets flow from on_yes on_no to None h (inl e) = subst (IsTarget flow) e h.0.target
test_targets flow from on_yes on_no to None h (inr e) = subst (IsTarget flow) e h.1.target
test_targets flow from on_yes on_no to (Some turn) h (inl e) = subst (IsTarget flow) e h.0
test_targets flow from on_yes on_no to (Some turn) h (inr e) = subst (IsTarget flow) e h.1

-- where an edge of a node that fits leads to
pub edge_target : (flow : FlowGraph) (from to : ℕ) (node : FlowNode) → NodeFits flow from node → HasEdge node to → IsTarget flow to
edge_target flow from to (Op item next) fits e = subst (IsTarget flow) e fits.1.target
edge_target flow from to (Test on on_yes on_no turn) fits e = test_targets flow from on_yes on_no to turn fits.1 e
edge_target flow from to Stop fits e = absurd e
edge_target flow from to (Trap kind line) fits e = absurd e

-- each node that can be reached is there
pub reachable_there : (flow : FlowGraph) (at : ℕ) → IsFlow flow → IsReachableNode flow at → IsTarget flow at
reachable_there flow _ is Entry = is.begins
reachable_there flow _ is (Behind {from = from} {to = at} {node = node} before there edge) =
    edge_target flow from at node (is.nodes_fit from node there) edge

-- so some node stands there
pub node_there : (nodes : List FlowNode) (at : ℕ) → at < length nodes → (node : FlowNode) × (slice_get nodes at ≡ Some node)
node_there [] at lt = absurd (omega arith)
node_there (node ∷ nodes) zero lt = (node, refl)
node_there (node ∷ nodes) (suc at) lt = node_there nodes at (omega arith)

-- ---- one unit of each

-- the old graph passes a node that is skipped: it prints nothing and comes to a place of lower rank, which corresponds to the same
record PassesSkipped (change : Change) (here there : FlowState) : Type 0 where
  next : FlowState
  steps : flow_step change.old here ≡ Goes [] next
  corresponds : Corresponds change next there
  lower : slice_index change.old.ranks next.node < slice_index change.old.ranks here.node

module _ (change : Change) where
  abbrev lengths : List ℕ
  lengths = change.old.arrays

  -- two steps print the same, and end alike or lead to places that correspond
  abbrev StepsCorrespond : Step FlowState → Step FlowState → Type 0
  StepsCorrespond (Goes printed here) (Goes other there) = (other ≡ printed) × Corresponds change here there
  StepsCorrespond (Stops printed end) (Stops other last) = (other ≡ printed) × (last ≡ end)
  StepsCorrespond (Goes printed here) (Stops other last) = ⊥
  StepsCorrespond (Stops printed end) (Goes other there) = ⊥

  -- such steps meet
  steps_meet : (f g : FlowState → Step FlowState) (one other : Step FlowState) → StepsCorrespond one other
      → Meet (Corresponds change) (reached_of one (reach f 0)) (reached_of other (reach g 0))
  steps_meet f g (Goes printed here) (Goes again there) h = (rw (append-nil, append-nil) (sym h.0), h.1)
  steps_meet f g (Stops printed end) (Stops again last) h = (sym h.0, sym h.1)
  steps_meet f g (Goes printed here) (Stops again last) h = absurd h
  steps_meet f g (Stops printed end) (Goes again there) h = absurd h

  -- ---- items

  -- two outcomes that are the same but for the node that comes next
  abbrev SameBefore : (onward : ℕ) → RowOutcome ℕ → RowOutcome ℕ → Type 0
  SameBefore onward (Faults fault) (Faults other) = other ≡ fault
  SameBefore onward (Commits printed new leaf) (Commits again other last) = (again ≡ printed) × (other ≡ new) × (last ≡ onward)
  SameBefore onward (Faults fault) (Commits again other last) = ⊥
  SameBefore onward (Commits printed new leaf) (Faults other) = ⊥

  -- an item before two nodes
  same_before : (item : Item) (to onward : ℕ) (s : State) (fault : Option MachineFault)
      → SameBefore onward (commit_of lengths s (item ∷ []) to fault) (commit_of lengths s (item ∷ []) onward fault)
  same_before item to onward s (Some fault) = refl
  same_before item to onward s None = (refl, refl, refl)

  module _ (at to onward : ℕ) (item other : Item) (becomes : ItemBecomes change at item other to onward) (s t : State)
      (reached : IsReachableNode change.old to) (known : change.Knows at s) (alike : AlikeIn (change.Matters at) s t) where
    -- the states after the two items correspond
    behind_items : (printed : List ℤ) (after more moved : State) (leaf last : ℕ)
        → item_step lengths item to s ≡ Commits printed after leaf → StatesAlike to (dest_of other) s t after more leaf last → moved ≡ more
        → Corresponds change (record { node = leaf; state = after }) (record { node = onward; state = moved })
    behind_items printed after more moved leaf last commits same is =
        let to_same : item_step lengths item to s ≡ Commits printed after to = commits ∙ ap (Commits printed after) (sym same.leads) in
        let behind : Corresponds change (record { node = to; state = after }) (record { node = onward; state = moved }) = record {
          leads = becomes.leads;
          reached = reached;
          known = becomes.knows s after printed known to_same;
          alike = record {
            same_cells = ap (λ (x : State). x.cells) is ∙ same.cells;
            same_input = ap (λ (x : State). x.input) is ∙ same.input;
            same_names = λ x matters. ap (λ (y : State). y.names x) is
                ∙ same.names x (λ unwritten. alike.same_names x
                (becomes.passes x (ap (λ (d : Option ℕ). writes d x) (sym becomes.same_dest) ∙ unwritten) matters));
          };
        } in
        subst (λ (n : ℕ). Corresponds change (record { node = n; state = after }) (record { node = onward; state = moved })) same.leads behind

    outcomes_correspond : (one again moved : RowOutcome ℕ) → item_step lengths item to s ≡ one → OutcomesAlike to (dest_of other) s t one again
        → SameBefore onward again moved → StepsCorrespond (step_after_item one) (step_after_item moved)
    outcomes_correspond (Faults fault) (Faults other_fault) (Faults last_fault) is h k = (refl, ap Fault (k ∙ h))
    outcomes_correspond (Commits printed after leaf) (Commits again more last) (Commits third moved node) is h k = (
      k.0 ∙ h.0,
      subst (λ (n : ℕ). Corresponds change (record { node = leaf; state = after }) (record { node = n; state = moved })) (sym k.2)
          (behind_items printed after more moved leaf last is h.1 k.1),
    )
    outcomes_correspond (Faults fault) (Commits again more last) moved is h k = absurd h
    outcomes_correspond (Commits printed after leaf) (Faults fault) moved is h k = absurd h
    outcomes_correspond (Faults fault) (Faults again) (Commits third moved node) is h k = absurd k
    outcomes_correspond (Commits printed after leaf) (Commits again more last) (Faults third) is h k = absurd k

    -- the two items
    items_correspond : StepsCorrespond (step_after_item (item_step lengths item to s)) (step_after_item (item_step lengths other onward t))
    items_correspond =
        let same : Same s.names t.names (operands_of other) = operands_same s.names t.names (operands_of other) (λ x e. alike.same_names x (becomes.reads x e)) in
        let alone = does_alike lengths other to s t same alike.same_cells alike.same_input in
        let first = subst (λ (o : RowOutcome ℕ). OutcomesAlike to (dest_of other) s t o (does_alone lengths other to t)) (sym (item_step-is lengths other to s)) alone in
        let both = subst (λ (o : RowOutcome ℕ). OutcomesAlike to (dest_of other) s t (item_step lengths other to s) o) (sym (item_step-is lengths other to t)) first in
        let this = subst (λ (o : RowOutcome ℕ). OutcomesAlike to (dest_of other) s t o (item_step lengths other to t)) (becomes.does_same s known) both in
        outcomes_correspond (item_step lengths item to s) (item_step lengths other to t) (item_step lengths other onward t) refl this
        (same_before other to onward t (fault_of lengths t (other ∷ [])))

  -- ---- tests

  -- the side that is taken
  side_corresponds : (b : Bool) (at : ℕ) (on : Operand) (to_yes to_no onward_yes onward_no : ℕ) (s t : State)
      → SideBecomes change at on true to_yes onward_yes → SideBecomes change at on false to_no onward_no
      → IsReachableNode change.old to_yes → IsReachableNode change.old to_no → change.Knows at s → holds (operand_value s.names on) ≡ b
      → AlikeIn (change.Matters at) s t
      → Corresponds change (record { node = if b then to_yes else to_no; state = s }) (record { node = if b then onward_yes else onward_no; state = t })
  side_corresponds true at on to_yes to_no onward_yes onward_no s t yes_side no_side first second known taken alike = record {
    leads = yes_side.leads;
    reached = first;
    known = yes_side.knows s known taken;
    alike = record { same_cells = alike.same_cells; same_input = alike.same_input; same_names = λ x m. alike.same_names x (yes_side.passes x m) };
  }
  side_corresponds false at on to_yes to_no onward_yes onward_no s t yes_side no_side first second known taken alike = record {
    leads = no_side.leads;
    reached = second;
    known = no_side.knows s known taken;
    alike = record { same_cells = alike.same_cells; same_input = alike.same_input; same_names = λ x m. alike.same_names x (no_side.passes x m) };
  }

  -- ---- nodes

  -- one unit of a node and of the node that it becomes
  nodes_correspond : (at : ℕ) (node other : FlowNode) (s t : State) → slice_get change.old.nodes at ≡ Some node → Becomes change at node other
      → IsReachableNode change.old at → change.Knows at s → AlikeIn (change.Matters at) s t
      → StepsCorrespond (run_node lengths s (Some node)) (run_node lengths t (Some other))
  nodes_correspond at _ _ s t there (Does {item = item} {other = other} {to = to} {onward = onward} becomes) reached known alike =
      items_correspond at to onward item other becomes s t (Behind reached there refl) known alike
  nodes_correspond at _ _ s t there (Tests {on = on} {other = other} {to_yes = to_yes} {to_no = to_no} {onward_yes = onward_yes} {onward_no = onward_no} tested yes_side no_side) reached known alike =
      let moved : operand_value t.names other ≡ operand_value s.names other = operand_same s.names t.names other (λ x e. alike.same_names x (tested.reads x e)) in
      let value : operand_value t.names other ≡ operand_value s.names on = moved ∙ tested.same_value s known in (
        refl,
        subst (λ (z : ℤ). Corresponds change (record { node = if holds (operand_value s.names on) then to_yes else to_no; state = s })
            (record { node = if holds z then onward_yes else onward_no; state = t })) (sym value)
            (side_corresponds (holds (operand_value s.names on)) at on to_yes to_no onward_yes onward_no s t yes_side no_side
            (Behind reached there (inl refl)) (Behind reached there (inr refl)) known refl alike),
      )
  nodes_correspond at _ _ s t there Stops_too reached known alike = (refl, refl)
  nodes_correspond at _ _ s t there Traps_too reached known alike = (refl, refl)

  module _ (is : IsChange change) where
    -- one unit of each, where both are at the same node
    units_correspond : (at : ℕ) (s t : State) → ((next : ℕ) → change.Skips at next → ⊥) → IsReachableNode change.old at → change.Knows at s → AlikeIn (change.Matters at) s t
        → StepsCorrespond (flow_step change.old (record { node = at; state = s })) (flow_step change.new (record { node = at; state = t }))
    units_correspond at s t stays reached known alike =
        let found = node_there change.old.nodes at (reachable_there change.old at is.is_flow reached) in
        let made = is.becomes at found.0 reached found.1 stays in
        let both = nodes_correspond at found.0 made.other s t found.1 made.becomes reached known alike in
        subst (λ (o : Option FlowNode). StepsCorrespond (run_node lengths s o) (flow_step change.new (record { node = at; state = t }))) (sym found.1)
        (subst (λ (l : List ℕ). StepsCorrespond (run_node lengths s (Some found.0)) (run_node l t (slice_get change.new.nodes at))) (sym is.same_arrays)
        (subst (λ (o : Option FlowNode). StepsCorrespond (run_node lengths s (Some found.0)) (run_node lengths t o)) (sym made.there) both))

    -- both graphs do the same, or the old one passes a node that is skipped and the new one stands still
    moves_along : (at to : ℕ) (s t : State) → Way change.Skips at to → ((next : ℕ) → change.Skips to next → ⊥)
        → IsReachableNode change.old at → change.Knows at s → AlikeIn (change.Matters at) s t
        → StepsCorrespond (flow_step change.old (record { node = at; state = s })) (flow_step change.new (record { node = to; state = t }))
        ⊎ PassesSkipped change (record { node = at; state = s }) (record { node = to; state = t })
    moves_along _ _ s t (Here {at = at}) stays reached known alike = inl (units_correspond at s t stays reached known alike)
    moves_along _ _ s t (Past {at = at} {next = next} {to = to} skips rest) stays reached known alike =
        let skipped = is.skips at next reached skips in
        let nothing = skipped.does_nothing s known in
        inr (record {
          next = record { node = next; state = nothing.after };
          steps = nothing.steps;
          corresponds = record {
            leads = record { way = rest; stays = stays };
            reached = skipped.reached reached;
            known = nothing.known;
            alike = record {
              same_cells = alike.same_cells ∙ sym nothing.same_cells;
              same_input = alike.same_input ∙ sym nothing.same_input;
              same_names = λ x m. alike.same_names x (skipped.passes x m) ∙ sym (nothing.same_names x m);
            };
          };
          lower = skipped.lower;
        })

    -- from places that correspond: agreement and pace both follow from this
    moves : (here there : FlowState) → Corresponds change here there
        → StepsCorrespond (flow_step change.old here) (flow_step change.new there) ⊎ PassesSkipped change here there
    moves here there c = moves_along here.node there.node here.state there.state c.leads.way c.leads.stays c.reached c.known c.alike

    -- the graphs begin where they correspond
    start_corresponds : (input : List ℤ) → All IsWord input → Corresponds change (flow_start change.old.entry change.old.initial input) (flow_start change.new.entry change.new.initial input)
    start_corresponds input words = record {
      leads = is.begins;
      reached = Entry;
      known = is.known_first input words;
      alike = record { same_cells = ap first_cells is.same_initial; same_input = refl; same_names = λ x m. refl };
    }

    -- ---- agreement

    -- how far the old graph is from the next test of a loop
    abbrev rank_of : FlowState → FlowState → ℕ
    rank_of here there = slice_index change.old.ranks here.node

    -- so they meet again, or where the rank is lower
    meet_in_time : (here there : FlowState)
        → StepsCorrespond (flow_step change.old here) (flow_step change.new there) ⊎ PassesSkipped change here there
        → MeetsAgain (flow_step change.old) (flow_step change.new) (Corresponds change) here there
        ⊎ MeetsLower (flow_step change.old) (flow_step change.new) (Corresponds change) rank_of here there
    meet_in_time here there (inl both) = inl (record {
      more_steps = 0;
      other_steps = 0;
      meet = steps_meet (flow_step change.old) (flow_step change.new) (flow_step change.old here) (flow_step change.new there) both;
    })
    meet_in_time here there (inr skipped) = inr (record {
      steps = 1;
      other_steps = 0;
      meet = subst (λ (x : Step FlowState). Meet (λ (a : FlowState) (b : FlowState). Corresponds change a b × (rank_of a b < rank_of here there))
          (reached_of x (reach (flow_step change.old) 0)) (reach (flow_step change.new) 0 there)) (sym skipped.steps)
          (refl, (skipped.corresponds, skipped.lower));
    })

    -- THE LAW: a graph whose nodes are changed one at a time shows what it showed, on every input of words and in both directions
    pub change_agrees : AgreeOnInputs (flow_run change.new) (flow_run change.old)
    change_agrees input words =
        let start = flow_start change.old.entry change.old.initial input in
        let new_start = flow_start change.new.entry change.new.initial input in
        Agree-sym (λ n. run_from (flow_step change.old) n start) (λ n. run_from (flow_step change.new) n new_start)
        (Agree-simulated_in_time (flow_step change.old) (flow_step change.new) (Corresponds change) rank_of
        (λ here there c. meet_in_time here there (moves here there c)) start new_start (start_corresponds input words))

    -- ---- pace

    -- n units of the new graph, from a place that corresponds, show at least what n units of the old one show
    abbrev Paced : ℕ → FlowState → FlowState → Type 0
    Paced n here there = Answers (run_from (flow_step change.old) n here) (run_from (flow_step change.new) n there) (run_from (flow_step change.old) n here).end

    -- one unit of each, and then n
    steps_paced : (n : ℕ) (one other : Step FlowState) → StepsCorrespond one other → ((here there : FlowState) → Corresponds change here there → Paced n here there)
        → Answers (seen_of one (run_from (flow_step change.old) n)) (seen_of other (run_from (flow_step change.new) n)) (seen_of one (run_from (flow_step change.old) n)).end
    steps_paced n (Goes printed here) (Goes again there) h paced =
        let old = run_from (flow_step change.old) n here in
        let new = run_from (flow_step change.new) n there in
        subst (λ (out : List ℤ). Answers (after_printing printed old) (after_printing out new) old.end) (sym h.0)
        (Answers-after printed old new old.end (paced here there h.1))
    steps_paced n (Stops printed end) (Stops again last) h paced = (h.0, ap (λ (e : End). Some e) h.1)
    steps_paced n (Goes printed here) (Stops again last) h paced = absurd h
    steps_paced n (Stops printed end) (Goes again there) h paced = absurd h

    -- where the old graph alone takes a unit, n units of the new one have shown enough, and one more shows no less
    skip_paced : (n : ℕ) (here there : FlowState) (skipped : PassesSkipped change here there) → Paced n skipped.next there → Paced (suc n) here there
    skip_paced n here there skipped paced =
        let old = run_from (flow_step change.old) n skipped.next in
        let new = run_from (flow_step change.new) n there in
        let more = run_from (flow_step change.new) (suc n) there in
        subst (λ (x : Step FlowState). Answers (seen_of x (run_from (flow_step change.old) n)) more (seen_of x (run_from (flow_step change.old) n)).end) (sym skipped.steps)
        (Answers-trans old new more old.end new.end refl paced (run_from-answers (flow_step change.new) n (suc n) there (omega arith)))

    -- from any two places that correspond
    paced_from : (n : ℕ) (here there : FlowState) → Corresponds change here there → Paced n here there
    paced_from zero here there c = Begins-refl []
    paced_from (suc n) here there c = elim (moves here there c) [
      | inl both ↦ steps_paced n (flow_step change.old here) (flow_step change.new there) both (λ x y r. paced_from n x y r)
      | inr skipped ↦ skip_paced n here there skipped (paced_from n skipped.next there skipped.corresponds)
    ]

    -- THE LAW OF PACE: such a graph is no slower, on any input of words
    pub change_paces : (input : List ℤ) → All IsWord input → (n : ℕ) → Answers (flow_run change.old input n) (flow_run change.new input n) (flow_run change.old input n).end
    change_paces input words n = paced_from n (flow_start change.old.entry change.old.initial input) (flow_start change.new.entry change.new.initial input) (start_corresponds input words)
