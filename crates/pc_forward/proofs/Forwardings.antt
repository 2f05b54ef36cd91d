-- The graph of which loads were forwarded.
use Rattle.std.proofs.Common.{◌≡◌, ◌≢◌, ◌⊎◌, inl, inr, ℕ, ◌+◌, true, ◌&&◌, List, [], length, Some, refl, sym, ◌∙◌, ap, subst, arith}
use Rattle.std.specs.Prelude.{ℤ, All, slice_get}
use Rattle.std.specs.List.{AllByRecursion}
use Rattle.std.proofs.lemmas.Option.{slice_get_within}
use Rattle.pc_word.specs.declared.item.Item.{Item}
use Rattle.pc_word.specs.declared.item.Item.TheVariants.{Bin, Copy, Load, Store, Print, Read, More}
use Rattle.pc_word.specs.declared.item.Operand.{Operand}
use Rattle.pc_word.specs.Word.{IsWord}
use Rattle.pc_word.specs.State.{State, start_state}
use Rattle.pc_word.specs.Items.{operands_of, dest_of}
use Rattle.pc_word.specs.Row.{Commits, item_step}
use Rattle.pc_word.proofs.Items.{item_step-is}
use Rattle.pc_flow.specs.declared.node.FlowNode.{FlowNode}
use Rattle.pc_flow.specs.declared.node.FlowNode.TheVariants.{Op, Test, Stop, Trap}
use Rattle.pc_flow.specs.FlowGraph.{FlowGraph, IsVariable, NodeFits, HasEdge, KeepsTurn, tested_loop, variables}
use Rattle.pc_flow.specs.Reachable.{IsReachableNode, Entry, Behind}
use Rattle.pc_pass.specs.Pass.{Keeps}
use Rattle.pc_pass.specs.models.Change.{Change, Here, LeadsPast, Becomes, Does, Tests, Stops_too, Traps_too, IsChange}
use Rattle.pc_pass.proofs.Changes.{node_there, change_agrees, change_paces}
use Rattle.pc_linear.specs.Form.{Form, form_value}
use Rattle.pc_linear.specs.Combine.{variable_form}
use Rattle.pc_scalar.specs.declared.plan.Plan.{Plan}
use Rattle.pc_scalar.specs.LoopTests.{IsEdge, KeepsLoopTests}
use Rattle.pc_scalar.specs.Tally.{AreMany, counted, without_edges, IsChangedNode, IsWorkedOn}
use Rattle.pc_scalar.specs.models.Plan.{Fits, planned}
use Rattle.pc_scalar.proofs.Chains.{keeps_turn}
use Rattle.pc_scalar.proofs.Tallies.{many_same, leaves}
use Rattle.pc_forward.specs.declared.access.Access.{Access}
use Rattle.pc_forward.specs.declared.trail.Trail.{Trail}
use Rattle.pc_forward.specs.Trail.{HasOneEdge, IsOnlyWay, own_forms, first_trail, behind, Along, Begins, Goes_on}
use Rattle.pc_forward.specs.Forwardable.{IsForwardable, ForwardsAll}
use Rattle.pc_forward.specs.Forwarded.{StandsFor, Is_constant, Is_least, IsForwardedLoad, ForwardsEach, Forwards}
use Rattle.pc_forward.specs.models.Words.{TakesWords}
use Rattle.pc_forward.specs.models.Walking.{IsForwardedNode, Is_forwarded, Stays, is_load, is_copy, IsForwardedAt, BecameCopy, Ends, IsForwarding}
use Rattle.pc_forward.proofs.Below.{IsBelow, variable_below, variable_value}
use Rattle.pc_forward.proofs.Noting.{one_is_edge}
use Rattle.pc_forward.proofs.OwnForms.{own_length, own_at}
use Rattle.pc_forward.proofs.Stepping.{holds_behind, forwarded_does}
use Rattle.pc_forward.proofs.Starts.{start_words}
use Rattle.pc_forward.proofs.Telling.{WordsIn, words_behind, IsKept, kept_behind, Holds}

-- ---- where a trail begins

none_there : (place : ℕ) (access : Access) → slice_get [] place ≡ Some access → ⊥
none_there place access e = cc

first_kept : IsKept first_trail
first_kept = record {
  long = own_length 0 variables;
  forms = λ x form e.
      let low = slice_get_within (own_forms 0 variables) x form e in
      let long = own_length 0 variables in
      let is : form ≡ variable_form x = own_at 0 variables x form e ∙ ap variable_form (let n : 0 + x ≡ x = omega arith in n) in
      subst (IsBelow variables) (sym is) (variable_below variables x (omega (arith, low, long)));
  accesses = λ place access e. absurd (none_there place access e);
}

-- each variable is its own value
first_holds : (lengths : List ℕ) (s : State) → WordsIn s → Holds lengths first_trail s
first_holds lengths s words = record {
  values = s.names;
  tells = record {
    words = words.names;
    names = λ x form e.
        let is : form ≡ variable_form x = own_at 0 variables x form e ∙ ap variable_form (let n : 0 + x ≡ x = omega arith in n) in
        sym (variable_value s.names x (words.names x)) ∙ ap (form_value s.names) (sym is);
    elements = λ array index value h. absurd (none_there h.latest.place h.access h.latest.there);
  };
}

-- ---- what becomes of a node

-- it keeps its edges
made_edge : (trail : Trail) (node made : FlowNode) (to : ℕ) → IsForwardedNode trail node made → HasEdge node to → HasEdge made to
made_edge trail _ _ to (Is_forwarded known) e = e
made_edge trail _ _ to (Stays off) e = e

edge_made : (trail : Trail) (node made : FlowNode) (to : ℕ) → IsForwardedNode trail node made → HasEdge made to → HasEdge node to
edge_made trail _ _ to (Is_forwarded known) e = e
edge_made trail _ _ to (Stays off) e = e

made_one : (trail : Trail) (node made : FlowNode) (to : ℕ) → IsForwardedNode trail node made → HasOneEdge node to → HasOneEdge made to
made_one trail _ _ to (Is_forwarded known) e = e
made_one trail _ _ to (Stays off) e = e

one_made : (trail : Trail) (node made : FlowNode) (to : ℕ) → IsForwardedNode trail node made → HasOneEdge made to → HasOneEdge node to
one_made trail _ _ to (Is_forwarded known) e = e
one_made trail _ _ to (Stays off) e = e

made_turn : (trail : Trail) (node made : FlowNode) → IsForwardedNode trail node made → tested_loop made ≡ tested_loop node
made_turn trail _ _ (Is_forwarded known) = refl
made_turn trail _ _ (Stays off) = refl

-- an operand that stands for a value is there
stands_there : (trail : Trail) (value : Form) (from : Operand) → IsKept trail → StandsFor trail.forms value from → IsVariable from
stands_there trail value _ kept (Is_constant none) = tt
stands_there trail value _ kept (Is_least {x = x} some least) =
    let low = slice_get_within trail.forms x least.holds.form least.holds.there in omega (arith, low, kept.long)

made_fits : (flow : FlowGraph) (at : ℕ) (trail : Trail) (node made : FlowNode) → IsKept trail → IsForwardedNode trail node made → NodeFits flow at node → NodeFits flow at made
made_fits flow at trail _ _ kept (Is_forwarded known) fits =
    (record { reads = (stands_there trail known.value _ kept known.stands_for, tt); writes = fits.0.writes; array = tt }, fits.1)
made_fits flow at trail _ _ kept (Stays off) fits = fits

-- an end takes no words
end_words : (node : FlowNode) → Ends node → TakesWords node
end_words (Op item to) ends = absurd ends
end_words (Test on on_yes on_no turn) ends = tt
end_words Stop ends = tt
end_words (Trap kind line) ends = tt

no_end : (trail : Trail) (node : FlowNode) → Ends node → IsForwardable trail node → ⊥
no_end trail node ends h = subst Ends h.is ends

-- no node is a load and a copy
not_both : (node : FlowNode) → (is_load node && is_copy node) ≡ true → ⊥
not_both (Op (Bin op dest left right) to) e = cc
not_both (Op (Copy dest from) to) e = cc
not_both (Op (Load dest array index) to) e = cc
not_both (Op (Store array index value) to) e = cc
not_both (Op (Print value) to) e = cc
not_both (Op (Read dest) to) e = cc
not_both (Op (More dest) to) e = cc
not_both (Test on on_yes on_no turn) e = cc
not_both Stop e = cc
not_both (Trap kind line) e = cc

-- a node that is another one is a copy where a load was
changed_copy : (trail : Trail) (node made : FlowNode) → IsForwardedNode trail node made → without_edges made ≢ without_edges node → (is_load node && is_copy made) ≡ true
changed_copy trail _ _ (Is_forwarded known) other = refl
changed_copy trail _ _ (Stays off) other = absurd (other refl)

-- nothing is skipped
abbrev no_skip : ℕ → ℕ → Type 0
no_skip at next = ⊥

leads_there : (to : ℕ) → LeadsPast no_skip to to
leads_there to = record { way = Here; stays = λ next h. h }

module _ (flow : FlowGraph) (plan : Plan) (is : IsForwarding flow plan) where
  abbrev new : FlowGraph
  new = planned plan flow

  -- ---- nodes

  -- what became of a node that can be reached: it was forwarded or stays, or it is an end
  abbrev Became : ℕ → FlowNode → FlowNode → Type 0
  Became at node made = ((trail : Trail) × Along flow plan.nodes at trail × TakesWords made × IsForwardedNode trail node made) ⊎ ((made ≡ node) × Ends node)

  became_at : (at : ℕ) (node : FlowNode) → IsForwardedAt flow plan.nodes at → slice_get flow.nodes at ≡ Some node → (made : FlowNode) × (slice_get plan.nodes at ≡ Some made) × Became at node made
  became_at at node w there =
      let was = w.was in
      let same : w.node ≡ node = (cc) in
      (w.made, w.stands, inl (w.trail, w.known, w.words, subst (λ (n : FlowNode). IsForwardedNode w.trail n w.made) same w.is))

  became : (at : ℕ) (node : FlowNode) → IsReachableNode flow at → slice_get flow.nodes at ≡ Some node → (made : FlowNode) × (slice_get plan.nodes at ≡ Some made) × Became at node made
  became at node reached there = elim (is.done at reached) [
    | inl w ↦ became_at at node w there
    | inr end ↦ elim (is.each at) [
      | inl old ↦
          let stands = end.there in
          let same : end.node ≡ node = (cc) in
          (node, old ∙ there, inr (refl, subst Ends same end.ends))
      | inr w ↦ became_at at node w there
    ]
  ]

  became_words : (at : ℕ) (node made : FlowNode) → Became at node made → TakesWords made
  became_words at node made (inl w) = w.2
  became_words at node made (inr end) = subst TakesWords (sym end.0) (end_words node end.1)

  became_edge : (at to : ℕ) (node made : FlowNode) → Became at node made → HasEdge node to → HasEdge made to
  became_edge at to node made (inl w) e = made_edge w.0 node made to w.3 e
  became_edge at to node made (inr end) e = subst (λ (n : FlowNode). HasEdge n to) (sym end.0) e

  edge_became : (at to : ℕ) (node made : FlowNode) → Became at node made → HasEdge made to → HasEdge node to
  edge_became at to node made (inl w) e = edge_made w.0 node made to w.3 e
  edge_became at to node made (inr end) e = subst (λ (n : FlowNode). HasEdge n to) end.0 e

  became_one : (at to : ℕ) (node made : FlowNode) → Became at node made → HasOneEdge node to → HasOneEdge made to
  became_one at to node made (inl w) e = made_one w.0 node made to w.3 e
  became_one at to node made (inr end) e = subst (λ (n : FlowNode). HasOneEdge n to) (sym end.0) e

  one_became : (at to : ℕ) (node made : FlowNode) → Became at node made → HasOneEdge made to → HasOneEdge node to
  one_became at to node made (inl w) e = one_made w.0 node made to w.3 e
  one_became at to node made (inr end) e = subst (λ (n : FlowNode). HasOneEdge n to) end.0 e

  -- the old node of a new one
  old_node : (at : ℕ) (made : FlowNode) → IsReachableNode flow at → slice_get plan.nodes at ≡ Some made → (node : FlowNode) × (slice_get flow.nodes at ≡ Some node) × Became at node made
  old_node at made reached stands =
      let low = slice_get_within plan.nodes at made stands in
      let old = node_there flow.nodes at (omega (arith, low, is.as_many)) in
      let it = became at old.0 reached old.1 in
      let there = it.1 in
      let same : it.0 ≡ made = (cc) in
      (old.0, old.1, subst (Became at old.0) same it.2)

  -- ---- the same nodes can be reached, by the same ways

  reached_before : (at : ℕ) → IsReachableNode new at → IsReachableNode flow at
  reached_before _ Entry = subst (IsReachableNode flow) (sym is.entry) Entry
  reached_before _ (Behind {from = from} {to = at} {node = node} before there edge) =
      let was = reached_before from before in
      let old = old_node from node was there in
      Behind was old.1 (edge_became from at old.0 node old.2 edge)

  reached_after : (at : ℕ) → IsReachableNode flow at → IsReachableNode new at
  reached_after _ Entry = subst (IsReachableNode new) is.entry Entry
  reached_after _ (Behind {from = from} {to = at} {node = node} before there edge) =
      let it = became from node before there in
      Behind (reached_after from before) it.1 (became_edge from at node it.0 it.2 edge)

  way_before : (from at : ℕ) → IsOnlyWay new from at → IsOnlyWay flow from at
  way_before from at way =
      let was = reached_before from way.reached in
      let old = old_node from way.node was way.there in
      record {
        reached = was;
        node = old.0;
        there = old.1;
        edge = one_became from at old.0 way.node old.2 way.edge;
        not_entry = λ e. way.not_entry (e ∙ sym is.entry);
        only = λ other also reached there edge.
            let it = became other also reached there in
            way.only other it.0 (reached_after other reached) it.1 (became_edge other at also it.0 it.2 edge);
      }

  way_after : (from at : ℕ) → IsOnlyWay flow from at → IsOnlyWay new from at
  way_after from at way =
      let it = became from way.node way.reached way.there in
      record {
        reached = reached_after from way.reached;
        node = it.0;
        there = it.1;
        edge = became_one from at way.node it.0 it.2 way.edge;
        not_entry = λ e. way.not_entry (e ∙ is.entry);
        only = λ other also reached there edge.
            let was = reached_before other reached in
            let old = old_node other also was there in
            way.only other old.0 was old.1 (edge_became other at old.0 also old.2 edge);
      }

  -- ---- trails

  along_new : (at : ℕ) (trail : Trail) → Along flow plan.nodes at trail → Along new plan.nodes at trail
  along_new _ _ (Begins {at = at} none) = Begins (λ from way. none from (way_before from at way))
  along_new _ _ (Goes_on {from = from} {at = at} {node = node} {trail = trail} way there before) = Goes_on (way_after from at way) there (along_new from trail before)

  along_old : (at : ℕ) (trail : Trail) → Along new plan.nodes at trail → Along flow plan.nodes at trail
  along_old _ _ (Begins {at = at} none) = Begins (λ from way. none from (way_after from at way))
  along_old _ _ (Goes_on {from = from} {at = at} {node = node} {trail = trail} way there before) = Goes_on (way_before from at way) there (along_old from trail before)

  -- one trail leads to a node
  along_once : (at : ℕ) (one other : Trail) → Along flow plan.nodes at one → Along flow plan.nodes at other → one ≡ other
  along_once _ _ _ (Begins none) (Begins also) = refl
  along_once _ _ _ (Begins none) (Goes_on {from = from} way there before) = absurd (none from way)
  along_once _ _ _ (Goes_on {from = from} way there before) (Begins none) = absurd (none from way)
  along_once _ _ _ (Goes_on {from = from} {at = at} {node = node} {trail = one} way there before) (Goes_on {from = second} {node = also} {trail = other} again stands earlier) =
      let same : second ≡ from = way.only second again.node again.reached again.there (one_is_edge again.node at again.edge) in
      let stands_same = subst (λ (n : ℕ). slice_get plan.nodes n ≡ Some also) same stands in
      let node_same : node ≡ also = (cc) in
      let trail_same = along_once from one other before (subst (λ (n : ℕ). Along flow plan.nodes n other) same earlier) in
      ap (behind node) trail_same ∙ ap (λ (n : FlowNode). behind n other) node_same

  words_at : (at : ℕ) (made : FlowNode) → IsReachableNode flow at → slice_get plan.nodes at ≡ Some made → TakesWords made
  words_at at made reached stands = let old = old_node at made reached stands in became_words at old.0 made old.2

  node_kept : (node : FlowNode) (trail : Trail) → TakesWords node → IsKept trail → IsKept (behind node trail)
  node_kept (Op item to) trail words kept = kept_behind item trail words kept
  node_kept (Test on on_yes on_no turn) trail words kept = kept
  node_kept Stop trail words kept = kept
  node_kept (Trap kind line) trail words kept = kept

  along_kept : (at : ℕ) (trail : Trail) → Along flow plan.nodes at trail → IsKept trail
  along_kept _ _ (Begins none) = first_kept
  along_kept _ _ (Goes_on {from = from} {at = at} {node = node} {trail = trail} way there before) =
      node_kept node trail (words_at from node way.reached there) (along_kept from trail before)

  -- ---- it shows what the graph shows

  -- all values are words, what is known along the trail holds, and all variables matter
  pub record Known (at : ℕ) (s : State) : Type 0 where
    pub words : WordsIn s
    pub holds : (trail : Trail) → Along flow plan.nodes at trail → Holds flow.arrays trail s

  abbrev change : Change
  change = record { old = flow; new = new; Skips = no_skip; Knows = Known; Matters = λ at x. Unit {0} }

  -- what is known behind a node that leads there
  known_behind : (at to : ℕ) (node made : FlowNode) (s t : State) → slice_get flow.nodes at ≡ Some node → slice_get plan.nodes at ≡ Some made → IsReachableNode flow at → HasEdge node to
      → WordsIn t → ((trail : Trail) → Along flow plan.nodes at trail → Holds flow.arrays (behind made trail) t) → Known to t
  known_behind at to node made s t there stands reached edge words holds = record { words = words; holds = λ trail along. by to trail edge along }
    where
      by : (to : ℕ) (trail : Trail) → HasEdge node to → Along flow plan.nodes to trail → Holds flow.arrays trail t
      by _ _ leads (Begins none) = first_holds flow.arrays t words
      by _ _ leads (Goes_on {from = from} {at = next} {node = other} {trail = trail} way also before) =
          let same : at ≡ from = way.only at node reached there leads in
          let stands_there = subst (λ (n : ℕ). slice_get plan.nodes n ≡ Some made) same stands in
          let is_made : made ≡ other = (cc) in
          subst (λ (n : FlowNode). Holds flow.arrays (behind n trail) t) is_made (holds trail (subst (λ (n : ℕ). Along flow plan.nodes n trail) (sym same) before))

  made_reads : (at to : ℕ) (item : Item) (other : FlowNode) → NodeFits flow at other → other ≡ Op item to → AllByRecursion IsVariable (operands_of item)
  made_reads at to item other fits e = (subst (NodeFits flow at) e fits).0.reads

  -- an item
  module _ (at to : ℕ) (item other : Item) (trail : Trail) (reached : IsReachableNode flow at) (there : slice_get flow.nodes at ≡ Some (Op item to))
      (stands : slice_get plan.nodes at ≡ Some (Op other to)) (along : Along flow plan.nodes at trail) (words : TakesWords (Op other to))
      (fits : NodeFits flow at (Op other to)) (does : (s : State) → Known at s → item_step flow.arrays other to s ≡ item_step flow.arrays item to s) where
    item_knows : (s t : State) (printed : List ℤ) → Known at s → item_step flow.arrays item to s ≡ Commits printed t to → Known to t
    item_knows s t printed known step =
        let alone = sym (item_step-is flow.arrays other to s) ∙ does s known ∙ step in
        known_behind at to (Op item to) (Op other to) s t there stands reached refl (words_behind flow.arrays other to s t printed words known.words alone)
        (λ trail here. holds_behind flow.arrays other trail s t to printed (along_kept at trail here) words fits.0.reads known.words (known.holds trail here) alone)

    item_becomes : dest_of other ≡ dest_of item → Becomes change at (Op item to) (Op other to)
    item_becomes same_dest = Does (record {
      leads = leads_there to;
      same_dest = same_dest;
      does_same = does;
      reads = λ x h. tt;
      passes = λ x h m. tt;
      knows = item_knows;
    })

  -- a side of a test
  side_knows : (at to : ℕ) (node : FlowNode) (s : State) → IsReachableNode flow at → slice_get flow.nodes at ≡ Some node → slice_get plan.nodes at ≡ Some node
      → ((trail : Trail) → behind node trail ≡ trail) → HasEdge node to → Known at s → Known to s
  side_knows at to node s reached there stands idle edge known =
      known_behind at to node node s s there stands reached edge known.words (λ trail here. subst (λ (t : Trail). Holds flow.arrays t s) (sym (idle trail)) (known.holds trail here))

  -- a node that stays
  same_becomes : (at : ℕ) (node : FlowNode) (trail : Trail) → IsReachableNode flow at → slice_get flow.nodes at ≡ Some node → slice_get plan.nodes at ≡ Some node
      → Along flow plan.nodes at trail → TakesWords node → Becomes change at node node
  same_becomes at (Op item to) trail reached there stands along words =
      item_becomes at to item item trail reached there stands along words (is.is_flow.nodes_fit at (Op item to) there) (λ s known. refl) refl
  same_becomes at (Test on on_yes on_no turn) trail reached there stands along words =
      Tests (record { same_value = λ s known. refl; reads = λ x h. tt })
      (record { leads = leads_there on_yes; passes = λ x m. tt; knows = λ s known taken. side_knows at on_yes (Test on on_yes on_no turn) s reached there stands (λ t. refl) (inl refl) known })
      (record { leads = leads_there on_no; passes = λ x m. tt; knows = λ s known taken. side_knows at on_no (Test on on_yes on_no turn) s reached there stands (λ t. refl) (inr refl) known })
  same_becomes at Stop trail reached there stands along words = Stops_too
  same_becomes at (Trap kind line) trail reached there stands along words = Traps_too

  -- a node that was forwarded
  node_becomes : (at : ℕ) (node made : FlowNode) (trail : Trail) → IsReachableNode flow at → slice_get flow.nodes at ≡ Some node → slice_get plan.nodes at ≡ Some made
      → Along flow plan.nodes at trail → TakesWords made → IsForwardedNode trail node made → Becomes change at node made
  node_becomes at _ _ trail reached there stands along words (Is_forwarded {dest = dest} {array = array} {to = to} {index = index} {from = from} known) =
      let kept = along_kept at trail along in
      let fits = is.is_flow.nodes_fit at (Op (Load dest array index) to) there in
      item_becomes at to (Load dest array index) (Copy dest from) trail reached there stands along words
      (made_fits flow at trail (Op (Load dest array index) to) (Op (Copy dest from) to) kept (Is_forwarded known) fits)
      (λ s holds. forwarded_does flow.arrays trail s dest array index from to kept (holds.holds trail along) fits.0.reads.0 known) refl
  node_becomes at _ _ trail reached there stands along words (Stays {node = node} off) = same_becomes at node trail reached there stands along words

  end_becomes : (at : ℕ) (node : FlowNode) → Ends node → Becomes change at node node
  end_becomes at (Op item to) ends = absurd ends
  end_becomes at (Test on on_yes on_no turn) ends = absurd ends
  end_becomes at Stop ends = Stops_too
  end_becomes at (Trap kind line) ends = Traps_too

  became_becomes : (at : ℕ) (node made : FlowNode) → IsReachableNode flow at → slice_get flow.nodes at ≡ Some node → slice_get plan.nodes at ≡ Some made → Became at node made
      → Becomes change at node made
  became_becomes at node made reached there stands (inl w) = node_becomes at node made w.0 reached there stands w.1 w.2 w.3
  became_becomes at node made reached there stands (inr end) = subst (Becomes change at node) (sym end.0) (end_becomes at node end.1)

  entry_known : (input : List ℤ) → All IsWord input → (at : ℕ) → at ≡ flow.entry → Known at (start_state flow.initial input)
  entry_known input all at e = record { words = start_words flow.initial input is.is_flow.data_words all; holds = λ trail along. by at trail e along }
    where
      by : (at : ℕ) (trail : Trail) → at ≡ flow.entry → Along flow plan.nodes at trail → Holds flow.arrays trail (start_state flow.initial input)
      by _ _ e (Begins none) = first_holds flow.arrays (start_state flow.initial input) (start_words flow.initial input is.is_flow.data_words all)
      by _ _ e (Goes_on way there before) = absurd (way.not_entry e)

  is_change : IsChange change
  is_change = record {
    is_flow = is.is_flow;
    same_arrays = refl;
    same_initial = refl;
    begins = subst (LeadsPast no_skip flow.entry) (sym is.entry) (leads_there flow.entry);
    known_first = λ input words. entry_known input words flow.entry refl;
    skips = λ at next reached h. absurd h;
    becomes = λ at node reached there none.
        let it = became at node reached there in
        record { other = it.0; there = it.1; becomes = became_becomes at node it.0 reached there it.1 it.2 };
  }

  pub forwarding_keeps : Keeps flow new
  forwarding_keeps = record {
    agrees = change_agrees change is_change;
    pace = change_paces change is_change;
    as_many = is.as_many;
    same_loops = refl;
    same_inside = refl;
    same_arrays = refl;
    same_initial = refl;
  }

  -- ---- the plan fits

  at_fits : (at : ℕ) (old made : FlowNode) → IsForwardedAt flow plan.nodes at → slice_get flow.nodes at ≡ Some old → slice_get plan.nodes at ≡ Some made → NodeFits flow at made × KeepsTurn old made
  at_fits at old made w there stands =
      let was = w.was in
      let now = w.stands in
      let same : w.node ≡ old = (cc) in
      let same_made : w.made ≡ made = (cc) in
      let becomes = subst (λ (n : FlowNode). IsForwardedNode w.trail n made) same (subst (IsForwardedNode w.trail w.node) same_made w.is) in
      (made_fits flow at w.trail old made (along_kept at w.trail w.known) becomes (is.is_flow.nodes_fit at old there), keeps_turn old made (made_turn w.trail old made becomes))

  pub forwarding_fits : Fits flow plan
  forwarding_fits = record {
    nodes = record {
      as_many = is.as_many;
      each = λ at old made there stands. elim (is.each at) [
        | inl same ↦
            let is_same : old ≡ made = (cc) in
            (subst (NodeFits flow at) is_same (is.is_flow.nodes_fit at old there), subst (KeepsTurn old) is_same (keeps_turn old old refl))
        | inr w ↦ at_fits at old made w there stands
      ];
    };
    entry = rw is.entry is.is_flow.begins;
  }

  -- ---- no load is forwardable any more

  not_forwardable : (trail : Trail) (node made : FlowNode) → IsForwardedNode trail node made → IsForwardable trail made → ⊥
  not_forwardable trail _ _ (Is_forwarded known) h = absurd (let e = h.is in cc)
  not_forwardable trail _ _ (Stays off) h = off h

  -- a trail leads to each node that is no end
  its_trail : (at : ℕ) (old made : FlowNode) → Became at old made → (Ends made → ⊥) → (trail : Trail) × Along new plan.nodes at trail
  its_trail at old made (inl w) goes_on = (w.0, along_new at w.0 w.1)
  its_trail at old made (inr end) goes_on = absurd (goes_on (subst Ends (sym end.0) end.1))

  load_trail : (at : ℕ) (made : FlowNode) → IsReachableNode flow at → slice_get plan.nodes at ≡ Some made → (Ends made → ⊥) → (trail : Trail) × Along new plan.nodes at trail
  load_trail at made reached stands goes_on = let old = old_node at made reached stands in its_trail at old.0 made old.2 goes_on

  pub forwarding_forwards : ForwardsAll new
  forwarding_forwards = record {
    trails = λ at dest array to index reached there. load_trail at (Op (Load dest array index) to) (reached_before at reached) there (λ ends. ends);
    none = λ at node trail reached there along h.
        let was = reached_before at reached in
        let old = old_node at node was there in
        became_not at old.0 node trail old.2 (along_old at trail along) h;
  }
    where
      became_not : (at : ℕ) (old node : FlowNode) (trail : Trail) → Became at old node → Along flow plan.nodes at trail → IsForwardable trail node → ⊥
      became_not at old node trail (inl w) along h =
          not_forwardable w.0 old node w.3 (subst (λ (t : Trail). IsForwardable t node) (along_once at trail w.0 along w.1) h)
      became_not at old node trail (inr end) along h = no_end trail old end.1 (subst (IsForwardable trail) end.0 h)

  -- ---- each node is as it was, or was forwarded

  forwarded_load : (at : ℕ) (trail : Trail) (node made : FlowNode) → Along flow plan.nodes at trail → slice_get flow.nodes at ≡ Some node → slice_get plan.nodes at ≡ Some made
      → IsForwardedNode trail node made → (slice_get plan.nodes at ≡ slice_get flow.nodes at) ⊎ IsForwardedLoad flow new at
  forwarded_load at trail _ _ along there stands (Is_forwarded {dest = dest} {array = array} {to = to} {index = index} {from = from} known) = inr (record {
    dest = dest;
    array = array;
    index = index;
    to = to;
    was = there;
    trail = trail;
    along = along_new at trail along;
    value = known.value;
    element = known.element;
    from = from;
    stands_for = known.stands_for;
    is = stands;
  })
  forwarded_load at trail _ _ along there stands (Stays off) = inl (stands ∙ sym there)

  pub forwarding_each : ForwardsEach flow new
  forwarding_each = record {
    same_entry = is.entry;
    each = λ at. elim (is.each at) [
      | inl same ↦ inl same
      | inr w ↦ forwarded_load at w.trail w.node w.made w.known w.was w.stands w.is
    ];
  }

  -- ---- tests of loops

  changed_at : (at : ℕ) (node : FlowNode) → slice_get flow.nodes at ≡ Some node → IsForwardedAt flow plan.nodes at
      → (made : FlowNode) × (slice_get plan.nodes at ≡ Some made) × (tested_loop made ≡ tested_loop node) × ((to : ℕ) → HasEdge node to → HasEdge made to)
  changed_at at node there w =
      let was = w.was in
      let same : w.node ≡ node = (cc) in
      let becomes = subst (λ (n : FlowNode). IsForwardedNode w.trail n w.made) same w.is in
      (w.made, w.stands, made_turn w.trail node w.made becomes, λ to e. made_edge w.trail node w.made to becomes e)

  changed : (at : ℕ) (node : FlowNode) → slice_get flow.nodes at ≡ Some node
      → (made : FlowNode) × (slice_get plan.nodes at ≡ Some made) × (tested_loop made ≡ tested_loop node) × ((to : ℕ) → HasEdge node to → HasEdge made to)
  changed at node there = elim (is.each at) [
    | inl same ↦ (node, same ∙ there, refl, λ to e. e)
    | inr w ↦ changed_at at node there w
  ]

  pub forwarding_keeps_tests : KeepsLoopTests flow new
  forwarding_keeps_tests = record {
    stay = λ at turn test.
        let it = changed at test.node test.there in
        record { node = it.0; there = it.1; tests = it.2 ∙ test.tests };
    led = λ from to turn test edge.
        let it = changed from edge.node edge.there in
        record { node = it.0; there = it.1; edge = it.3 to edge.edge };
    begins = λ turn test. is.entry;
  }

  -- ---- the nodes that are counted

  none_skipped : (at : ℕ) → IsReachableNode flow at → at ≢ new.entry → ((from : ℕ) → IsReachableNode flow from → IsEdge new from at → ⊥) → ⊥
  none_skipped _ Entry not_entry led_past = not_entry (sym is.entry)
  none_skipped _ (Behind {from = from} {to = at} {node = node} reached there edge) not_entry led_past =
      let it = changed from node there in
      led_past from reached (record { node = it.0; there = it.1; edge = it.3 at edge })

  -- a trail with an access leads to a node that can be reached
  along_reached : (at : ℕ) (trail : Trail) → Along flow plan.nodes at trail → (place : ℕ) (access : Access) → slice_get trail.accesses place ≡ Some access → IsReachableNode flow at
  along_reached _ _ (Begins none) place access e = absurd (none_there place access e)
  along_reached _ _ (Goes_on {at = at} way there before) place access e = Behind way.reached way.there (one_is_edge way.node at way.edge)

  copies_changed : (at : ℕ) (trail : Trail) (node made : FlowNode) → Along flow plan.nodes at trail → slice_get flow.nodes at ≡ Some node → slice_get plan.nodes at ≡ Some made
      → IsForwardedNode trail node made → (is_load node && is_copy made) ≡ true → IsChangedNode flow new at
  copies_changed at trail _ _ along there stands (Is_forwarded {dest = dest} {array = array} {to = to} {index = index} {from = from} known) e = record {
    reached = along_reached at trail along known.element.latest.place known.element.access known.element.latest.there;
    before = Op (Load dest array index) to;
    after = Op (Copy dest from) to;
    was = there;
    stands = stands;
    other = λ same. absurd (cc);
  }
  copies_changed at trail _ _ along there stands (Stays {node = node} off) e = absurd (not_both node e)

  copy_worked : (at : ℕ) → BecameCopy flow.nodes plan.nodes at → IsWorkedOn flow new at
  copy_worked at h = elim (is.each at) [
    | inl same ↦
        let was = h.was in
        let stands = h.stands in
        let alike : h.after ≡ h.before = (cc) in
        absurd (not_both h.before (subst (λ (n : FlowNode). (is_load h.before && is_copy n) ≡ true) alike h.other))
    | inr w ↦
        let was = h.was in
        let stands = h.stands in
        let there = w.was in
        let made = w.stands in
        let before : h.before ≡ w.node = (cc) in
        let after : h.after ≡ w.made = (cc) in
        inl (copies_changed at w.trail w.node w.made w.known w.was w.stands w.is
        (subst (λ (n : FlowNode). (is_load n && is_copy w.made) ≡ true) before (subst (λ (n : FlowNode). (is_load h.before && is_copy n) ≡ true) after h.other)))
  ]

  worked_copy : (at : ℕ) → IsWorkedOn flow new at → BecameCopy flow.nodes plan.nodes at
  worked_copy at (inl h) = elim (is.each at) [
    | inl same ↦
        let was = h.was in
        let stands = h.stands in
        let alike : h.after ≡ h.before = (cc) in
        absurd (h.other (ap without_edges alike))
    | inr w ↦
        let was = h.was in
        let stands = h.stands in
        let there = w.was in
        let made = w.stands in
        let before : w.node ≡ h.before = (cc) in
        let after : w.made ≡ h.after = (cc) in
        let other : without_edges w.made ≢ without_edges w.node = λ e. h.other (ap without_edges (sym after) ∙ e ∙ ap without_edges before) in
        record { before = w.node; after = w.made; was = w.was; stands = w.stands; other = changed_copy w.trail w.node w.made w.is other }
  ]
  worked_copy at (inr h) = absurd (none_skipped at h.reached h.not_entry h.led_past)

  pub forwarding_counts : AreMany (IsWorkedOn flow new) (length flow.nodes) plan.changed
  forwarding_counts = many_same (BecameCopy flow.nodes plan.nodes) (IsWorkedOn flow new) copy_worked worked_copy (length flow.nodes) plan.changed is.changed

pub ruleset forwarding_laws = (forwarding_fits, forwarding_keeps, forwarding_forwards, forwarding_each, forwarding_keeps_tests, forwarding_counts)

-- a pass that forwards all, and whose count rose so, does what it is to do
pub forwards : (old new : FlowGraph) (before now many : ℕ) → ForwardsAll new → ForwardsEach old new → KeepsLoopTests old new → AreMany (IsWorkedOn old new) (length old.nodes) many
    → now ≡ counted before many → Forwards old new before now
forwards old new before now many all each tests are rose = record { leaves = leaves ForwardsAll old new before now many all tests are rose; each = each }
