-- Which ways go on from a node.
use Rattle.std.proofs.Common.{◌≡◌, ◌⊎◌, inl, inr, ℕ, ◌+◌, ◌<◌, ◌≤◌, true, false, List, [], ◌∷◌, length, Some, refl, sym, ◌∙◌, subst, arith}
use Rattle.std.proofs.Common.{eq-eqb, eqb-true, true≢false, Result, Ok, Err}
use Rattle.std.specs.Prelude.{OnOk, slice_get}
use Rattle.pc_word.proofs.Places.{get_front, get_last, get_more, length_more}
use Rattle.pc_flow.specs.declared.node.FlowNode.{FlowNode}
use Rattle.pc_flow.specs.declared.node.FlowNode.TheVariants.{Op, Test, Stop, Trap}
use Rattle.pc_flow.specs.FlowGraph.{FlowGraph, IsFlow, HasEdge}
use Rattle.pc_pass.proofs.Changes.{edge_target, reachable_there}
use Rattle.pc_scalar.specs.models.Met.{edges_of}
use Rattle.pc_forward.specs.declared.trail.Trail.{Trail}
use Rattle.pc_forward.specs.declared.walking.Waiting.{Waiting}
use Rattle.pc_forward.specs.declared.ways.Way.{Way}
use Rattle.pc_forward.specs.declared.ways.Way.TheVariants.{Nothing, Only, Several}
use Rattle.pc_forward.specs.Trail.{IsOnlyWay}
use Rattle.pc_forward.specs.models.Walking.{IsEnd, IsListed, follows, begins, Adds, Waits_too, Not_so, AddsAll, Nothing_added, Node_added}
use Rattle.pc_forward.specs.models.Ways.{IsWay}
use Rattle.pc_forward.proofs.Noting.{one_is_edge}

-- a way that the table tells
pub only_way : (flow : FlowGraph) (from to : ℕ) (known : Way) → IsFlow flow → IsWay flow (length flow.nodes) to known → follows from known ≡ true → IsOnlyWay flow from to
only_way flow from to Nothing is h e = absurd (cc)
only_way flow from to (Only other) is h e =
    subst (λ (n : ℕ). IsOnlyWay flow n to) (eqb-true other from e) (record {
      reached = h.2.reached;
      node = h.2.node;
      there = h.2.there;
      edge = h.2.edge;
      not_entry = h.1;
      only = λ also node reached there edge. h.3 also node (reachable_there flow also is reached) reached there edge;
    })
only_way flow from to Several is h e = absurd (cc)

-- it tells of all
pub no_way : (flow : FlowGraph) (from to : ℕ) (known : Way) → IsFlow flow → IsWay flow (length flow.nodes) to known → follows from known ≡ false → IsOnlyWay flow from to → ⊥
no_way flow from to Nothing is h e way = h.1 from way.node (reachable_there flow from is way.reached) way.reached way.there (one_is_edge way.node to way.edge)
no_way flow from to (Only other) is h e way =
    let same : from ≡ other = h.3 from way.node (reachable_there flow from is way.reached) way.reached way.there (one_is_edge way.node to way.edge) in
    true≢false (sym (eq-eqb other from (sym same)) ∙ e)
no_way flow from to Several is h e way = h from way

-- a node that begins a trail
pub begins_trail : (flow : FlowGraph) (to : ℕ) (known : Way) → IsWay flow (length flow.nodes) to known → begins known ≡ true → (from : ℕ) → IsOnlyWay flow from to → ⊥
begins_trail flow to Nothing h e from way = absurd (cc)
begins_trail flow to (Only other) h e from way = absurd (cc)
begins_trail flow to Several h e from way = h from way

-- what edges lead to is there
pub targets : (flow : FlowGraph) (at : ℕ) (node : FlowNode) (to : ℕ) → IsFlow flow → slice_get flow.nodes at ≡ Some node → HasEdge node to → to < length flow.nodes
targets flow at node to is there edge = edge_target flow at to node (is.nodes_fit at node there) edge

-- ---- nodes that wait

module _ (flow : FlowGraph) (from : ℕ) (trail : Trail) where
  -- those that waited do still
  adds_stay : (to : ℕ) (waiting more : List Waiting) → Adds flow from trail to waiting more → (place : ℕ) (next : Waiting) → slice_get waiting place ≡ Some next → slice_get more place ≡ Some next
  adds_stay to waiting _ (Waits_too way) place next e = get_front waiting (record { at = to; trail = trail } ∷ []) place next e
  adds_stay to waiting _ (Not_so off) place next e = e

  pub all_stay : (nodes : List ℕ) (waiting more : List Waiting) → AddsAll flow from trail nodes waiting more → (place : ℕ) (next : Waiting) → slice_get waiting place ≡ Some next
      → slice_get more place ≡ Some next
  all_stay _ _ _ (Nothing_added) place next e = e
  all_stay _ _ _ (Node_added {to = to} {nodes = nodes} {waiting = waiting} {mid = mid} {more = more} one rest) place next e =
      all_stay nodes mid more rest place next (adds_stay to waiting mid one place next e)

  -- a node that waits now waited before, or it is a new one
  abbrev IsNew : Waiting → Type 0
  IsNew next = (next.trail ≡ trail) × IsOnlyWay flow from next.at

  adds_from : (to : ℕ) (waiting more : List Waiting) → Adds flow from trail to waiting more → (place : ℕ) (next : Waiting) → slice_get more place ≡ Some next
      → (slice_get waiting place ≡ Some next) ⊎ IsNew next
  adds_from to waiting _ (Waits_too way) place next e = elim (get_more waiting (record { at = to; trail = trail }) place next e) [
    | inl old ↦ inl old
    | inr new ↦ inr (subst IsNew new.1 (refl, way))
  ]
  adds_from to waiting _ (Not_so off) place next e = inl e

  pub all_from : (nodes : List ℕ) (waiting more : List Waiting) → AddsAll flow from trail nodes waiting more → (place : ℕ) (next : Waiting) → slice_get more place ≡ Some next
      → (slice_get waiting place ≡ Some next) ⊎ ((next.trail ≡ trail) × IsOnlyWay flow from next.at)
  all_from _ _ _ (Nothing_added) place next e = inl e
  all_from _ _ _ (Node_added {to = to} {nodes = nodes} {waiting = waiting} {mid = mid} {more = more} one rest) place next e = elim (all_from nodes mid more rest place next e) [
    | inl old ↦ adds_from to waiting mid one place next old
    | inr new ↦ inr new
  ]

  -- at most one more for each
  adds_few : (to : ℕ) (waiting more : List Waiting) → Adds flow from trail to waiting more → length more ≤ length waiting + 1
  adds_few to waiting _ (Waits_too way) = let long = length_more waiting (record { at = to; trail = trail }) in omega (arith, long)
  adds_few to waiting _ (Not_so off) = omega arith

  pub all_few : (nodes : List ℕ) (waiting more : List Waiting) → AddsAll flow from trail nodes waiting more → length more ≤ length waiting + length nodes
  all_few _ _ _ (Nothing_added) = omega arith
  all_few _ _ _ (Node_added {to = to} {nodes = nodes} {waiting = waiting} {mid = mid} {more = more} one rest) =
      let first = adds_few to waiting mid one in let others = all_few nodes mid more rest in omega (arith, first, others)

  -- a node that was looked at waits, or no way leads there but to an end
  adds_to : (to : ℕ) (waiting more : List Waiting) → Adds flow from trail to waiting more → IsOnlyWay flow from to → IsEnd flow to ⊎ IsListed more to
  adds_to to waiting _ (Waits_too also) way = inr (record { place = length waiting; next = record { at = to; trail = trail }; there = get_last waiting (record { at = to; trail = trail }); is = refl })
  adds_to to waiting _ (Not_so off) way = inl (off way)

  listed_still : (nodes : List ℕ) (mid more : List Waiting) (to : ℕ) → AddsAll flow from trail nodes mid more → IsEnd flow to ⊎ IsListed mid to → IsEnd flow to ⊎ IsListed more to
  listed_still nodes mid more to rest (inl end) = inl end
  listed_still nodes mid more to rest (inr l) = inr (record { place = l.place; next = l.next; there = all_stay nodes mid more rest l.place l.next l.there; is = l.is })

  first_to : (to : ℕ) (nodes : List ℕ) (waiting more : List Waiting) → AddsAll flow from trail (to ∷ nodes) waiting more → IsOnlyWay flow from to → IsEnd flow to ⊎ IsListed more to
  first_to to nodes _ _ (Node_added {waiting = waiting} {mid = mid} {more = more} one rest) way = listed_still nodes mid more to rest (adds_to to waiting mid one way)

  second_to : (first to : ℕ) (nodes : List ℕ) (waiting more : List Waiting) → AddsAll flow from trail (first ∷ to ∷ nodes) waiting more → IsOnlyWay flow from to → IsEnd flow to ⊎ IsListed more to
  second_to first to nodes _ _ (Node_added {mid = mid} {more = more} one rest) way = first_to to nodes mid more rest way

  -- all ways of a node
  pub all_to : (node : FlowNode) (waiting more : List Waiting) (to : ℕ) → AddsAll flow from trail (edges_of node) waiting more → HasEdge node to → IsOnlyWay flow from to
      → IsEnd flow to ⊎ IsListed more to
  all_to (Op item next) waiting more to adds edge way =
      subst (λ (n : ℕ). IsEnd flow n ⊎ IsListed more n) edge (first_to next [] waiting more adds (subst (IsOnlyWay flow from) (sym edge) way))
  all_to (Test on on_yes on_no turn) waiting more to adds (inl edge) way =
      subst (λ (n : ℕ). IsEnd flow n ⊎ IsListed more n) edge (first_to on_yes (on_no ∷ []) waiting more adds (subst (IsOnlyWay flow from) (sym edge) way))
  all_to (Test on on_yes on_no turn) waiting more to adds (inr edge) way =
      subst (λ (n : ℕ). IsEnd flow n ⊎ IsListed more n) edge (second_to on_yes on_no [] waiting more adds (subst (IsOnlyWay flow from) (sym edge) way))
  all_to Stop waiting more to adds edge way = absurd edge
  all_to (Trap kind line) waiting more to adds edge way = absurd edge

  pub few_edges : (node : FlowNode) → length (edges_of node) ≤ 2
  few_edges (Op item next) = omega arith
  few_edges (Test on on_yes on_no turn) = omega arith
  few_edges Stop = omega arith
  few_edges (Trap kind line) = omega arith

-- ---- one after another

-- a node whose edges are these
pub edges_are : (flow : FlowGraph) (at : ℕ) (node : FlowNode) (P : List ℕ → Type 0) → slice_get flow.nodes at ≡ Some node → P (edges_of node)
    → (other : FlowNode) → slice_get flow.nodes at ≡ Some other → P (edges_of other)
edges_are flow at node P there h other also = let same : node ≡ other = (cc) in subst (λ (n : FlowNode). P (edges_of n)) same h

-- what follows from a result that is well
pub on_ok : {T E : Type 0} {P Q : Type 0} (r : Result T E) → (P → Q) → OnOk r P → OnOk r Q
on_ok (Ok x) f h = f h
on_ok (Err e) f h = tt
