-- The search for reachable nodes: what is kept from node to node.
use Rattle.std.proofs.Common.{◌≡◌, ℕ, zero, suc, ◌<◌, ◌≤◌, ◌⊎◌, inl, inr, List, [], ◌∷◌, ◌++◌, length, Option, Some, None, refl, sym, ◌∙◌, ap, subst, arith}
use Rattle.std.specs.Prelude.{is_some, slice_get}
use Rattle.std.proofs.lemmas.List.{length-replicate}
use Rattle.std.proofs.lemmas.List.Sums.{count_by-le-length}
use Rattle.std.proofs.lemmas.Option.{slice_get_within}
use Rattle.pc_word.specs.declared.item.Item.{Item}
use Rattle.pc_word.specs.declared.item.Operand.{Operand}
use Rattle.pc_word.specs.declared.item.TrapKind.{TrapKind}
use Rattle.pc_word.proofs.Truth.{decide_le}
use Rattle.pc_flow.specs.declared.node.FlowNode.{FlowNode}
use Rattle.pc_flow.specs.declared.node.FlowNode.TheVariants.{Op, Test, Stop, Trap}
use Rattle.pc_flow.specs.FlowGraph.{FlowGraph, IsFlow, IsTarget, TestFits, HasEdge}
use Rattle.pc_regions.specs.Reachable.{AreReachable}
use Rattle.pc_flow.specs.Reachable.{IsReachableNode, Entry, Behind}
use Rattle.pc_regions.specs.models.Numbered.{Numbered, IsNumbered, nothing_met, Meets, KeepsPlaces}
use Rattle.pc_regions.specs.models.Reaching.{MeetsEdges, IsReaching}
use Rattle.pc_word.proofs.Places.{get_front, get_more, found_within, none_left}

-- ---- where edges lead

-- the node after an item is there
pub item_leads : (flow : FlowGraph) (at next : ℕ) (item : Item) → IsFlow flow → slice_get flow.nodes at ≡ Some (Op item next) → IsTarget flow next
item_leads flow at next item is here = (is.nodes_fit at (Op item next) here).1.target

-- both sides of a test are there
sides_there : (flow : FlowGraph) (at on_yes on_no : ℕ) (turn : Option ℕ) → TestFits flow at on_yes on_no turn → IsTarget flow on_yes × IsTarget flow on_no
sides_there flow at on_yes on_no None h = (h.0.target, h.1.target)
sides_there flow at on_yes on_no (Some turn) h = (h.0, h.1)

pub test_leads : (flow : FlowGraph) (at : ℕ) (on : Operand) (on_yes on_no : ℕ) (turn : Option ℕ) → IsFlow flow
    → slice_get flow.nodes at ≡ Some (Test on on_yes on_no turn) → IsTarget flow on_yes × IsTarget flow on_no
test_leads flow at on on_yes on_no turn is here = sides_there flow at on_yes on_no turn (is.nodes_fit at (Test on on_yes on_no turn) here).1

-- the node to which an edge leads is there
pub edge_leads : (flow : FlowGraph) (at to : ℕ) (node : FlowNode) → IsFlow flow → slice_get flow.nodes at ≡ Some node → HasEdge node to → IsTarget flow to
edge_leads flow at to (Op item next) is here edge = subst (λ (n : ℕ). IsTarget flow n) edge (item_leads flow at next item is here)
edge_leads flow at to (Test on on_yes on_no turn) is here (inl edge) = subst (λ (n : ℕ). IsTarget flow n) edge (test_leads flow at on on_yes on_no turn is here).0
edge_leads flow at to (Test on on_yes on_no turn) is here (inr edge) = subst (λ (n : ℕ). IsTarget flow n) edge (test_leads flow at on on_yes on_no turn is here).1
edge_leads flow at to Stop is here edge = absurd edge
edge_leads flow at to (Trap kind line) is here edge = absurd edge

-- ---- a node more

-- what was met is still met where a node more is
pub meets_keeps : (old new : Numbered) (node number : ℕ) → Meets old new node number → KeepsPlaces old.order new.order
meets_keeps old new node number meets place at there = elim meets.grown [
  | inl same ↦ subst (λ (order : List ℕ). slice_get order place ≡ Some at) (sym same) there
  | inr more ↦ subst (λ (order : List ℕ). slice_get order place ≡ Some at) (sym more.0) (get_front old.order (node ∷ []) place at there)
]

-- what is met now was met before, or is that node
met_before : (old new : Numbered) (node number place at : ℕ) → Meets old new node number → slice_get new.order place ≡ Some at
    → (slice_get old.order place ≡ Some at) ⊎ (node ≡ at)
met_before old new node number place at meets there = elim meets.grown [
  | inl same ↦ inl (subst (λ (order : List ℕ). slice_get order place ≡ Some at) same there)
  | inr more ↦ elim (get_more old.order node place at (subst (λ (order : List ℕ). slice_get order place ≡ Some at) more.0 there)) [
    | inl before ↦ inl before
    | inr last ↦ inr last.1
  ]
]

-- ---- the edges of a node, by what it is

module _ (nodes : List FlowNode) (from : ℕ) where
  only_node : (node other : FlowNode) → slice_get nodes from ≡ Some node → slice_get nodes from ≡ Some other → node ≡ other
  only_node node other p q = cc

  pub item_edges : (item : Item) (next number : ℕ) (old new : Numbered) → slice_get nodes from ≡ Some (Op item next) → Meets old new next number
      → MeetsEdges nodes from old new
  item_edges item next number old new here meets = record {
    as_many_nodes = meets.as_many_nodes;
    keeps = meets_keeps old new next number meets;
    all = λ node to there edge.
        let e : next ≡ to = subst (λ (n : FlowNode). HasEdge n to) (sym (only_node (Op item next) node here there)) edge in
        (number, meets.there ∙ ap (λ (n : ℕ). Some n) e);
    only = λ place at there. elim (met_before old new next number place at meets there) [
      | inl before ↦ inl before
      | inr e ↦ inr (Op item next, here, e)
    ];
  }

  pub test_edges : (on : Operand) (on_yes on_no one other : ℕ) (turn : Option ℕ) (old mid new : Numbered) → slice_get nodes from ≡ Some (Test on on_yes on_no turn)
      → Meets old mid on_yes one → Meets mid new on_no other → MeetsEdges nodes from old new
  test_edges on on_yes on_no one other turn old mid new here first second = record {
    as_many_nodes = second.as_many_nodes ∙ first.as_many_nodes;
    keeps = λ place at there. meets_keeps mid new on_no other second place at (meets_keeps old mid on_yes one first place at there);
    all = λ node to there edge.
        side to (subst (λ (n : FlowNode). HasEdge n to) (sym (only_node (Test on on_yes on_no turn) node here there)) edge);
    only = λ place at there. elim (met_before mid new on_no other place at second there) [
      | inl before ↦ elim (met_before old mid on_yes one place at first before) [
        | inl earlier ↦ inl earlier
        | inr e ↦ inr (Test on on_yes on_no turn, here, inl e)
      ]
      | inr e ↦ inr (Test on on_yes on_no turn, here, inr e)
    ];
  }
    where
      side : (to : ℕ) → (on_yes ≡ to) ⊎ (on_no ≡ to) → (place : ℕ) × (slice_get new.order place ≡ Some to)
      side to (inl e) = (one, meets_keeps mid new on_no other second one to (first.there ∙ ap (λ (n : ℕ). Some n) e))
      side to (inr e) = (other, second.there ∙ ap (λ (n : ℕ). Some n) e)

  -- a node without edges
  no_edges : (node : FlowNode) (it : Numbered) → slice_get nodes from ≡ Some node → ((to : ℕ) → HasEdge node to → ⊥) → MeetsEdges nodes from it it
  no_edges node it here none = record {
    as_many_nodes = refl;
    keeps = λ place at there. there;
    all = λ other to there edge. absurd (none to (subst (λ (n : FlowNode). HasEdge n to) (sym (only_node node other here there)) edge));
    only = λ place at there. inl there;
  }

  pub stop_edges : (it : Numbered) → slice_get nodes from ≡ Some Stop → MeetsEdges nodes from it it
  stop_edges it here = no_edges Stop it here (λ to edge. edge)

  pub trap_edges : (kind : TrapKind) (line : ℕ) (it : Numbered) → slice_get nodes from ≡ Some (Trap kind line) → MeetsEdges nodes from it it
  trap_edges kind line it here = no_edges (Trap kind line) it here (λ to edge. edge)

pub ruleset edges = (item_leads, test_leads, item_edges, test_edges, stop_edges, trap_edges)

-- ---- the loop

-- the first number of all
pub first_of : (it new : Numbered) (node number : ℕ) → it.order ≡ [] → Meets it new node number → new.order ≡ node ∷ []
first_of it new node number none meets = elim meets.grown [
  | inl same ↦
      let there : slice_get [] number ≡ Some node = subst (λ (order : List ℕ). slice_get order number ≡ Some node) (same ∙ none) meets.there in
      absurd (cc)
  | inr more ↦ more.0 ∙ ap (λ (order : List ℕ). order ++ node ∷ []) none
]

-- the entry is met first
pub reaching_begins : (flow : FlowGraph) (it new : Numbered) (number : ℕ) → it ≡ nothing_met (length flow.nodes) → Meets it new flow.entry number
    → IsReaching flow new 0
reaching_begins flow it new number is meets =
    let nothing : Option ℕ = None in
    let as_many : length it.numbers ≡ length flow.nodes = ap (λ (x : Numbered). length x.numbers) is ∙ length-replicate (length flow.nodes) nothing in
    let order = first_of it new flow.entry number (ap (λ (x : Numbered). x.order) is) meets in
    record {
      nodes = meets.as_many_nodes ∙ as_many;
      entry = ap (λ (l : List ℕ). slice_get l 0) order;
      few = omega arith;
      only = λ place at there. only_entry place at (subst (λ (l : List ℕ). slice_get l place ≡ Some at) order there);
      closed = λ place at to node lt there here edge. absurd (omega arith);
    }
  where
    only_entry : (place at : ℕ) → slice_get (flow.entry ∷ []) place ≡ Some at → IsReachableNode flow at
    only_entry zero at e = let same : flow.entry ≡ at = (cc) in subst (λ (n : ℕ). IsReachableNode flow n) same Entry
    only_entry (suc place) at e = absurd (cc)

-- a node more whose edges were gone along
pub reaching_goes_on : (flow : FlowGraph) (it new : Numbered) (done from : ℕ) → IsReaching flow it done → slice_get it.order done ≡ Some from
    → MeetsEdges flow.nodes from it new → IsReaching flow new (suc done)
reaching_goes_on flow it new done from h here meets = record {
  nodes = meets.as_many_nodes ∙ h.nodes;
  entry = meets.keeps 0 flow.entry h.entry;
  few = slice_get_within new.order done from (meets.keeps done from here);
  only = λ place at there. elim (meets.only place at there) [
    | inl before ↦ h.only place at before
    | inr behind ↦ Behind (h.only done from here) behind.1 behind.2
  ];
  closed = λ place at to node lt there found edge. elim (decide_le (suc place) done) [
    | inl before ↦
        let few = h.few in
        let inside : place < length it.order = omega (arith, before, few) in
        let was = found_within it.order place inside in
        let same = only_one new.order place (meets.keeps place was.0 was.1) there in
        let led = h.closed place was.0 to node before was.1 (subst (λ (n : ℕ). slice_get flow.nodes n ≡ Some node) (sym same) found) edge in
        (led.0, meets.keeps led.0 to led.1)
    | inr last ↦
        let place_is : place ≡ done = omega (arith, lt, last) in
        let same = only_one new.order done (meets.keeps done from here) (subst (λ (n : ℕ). slice_get new.order n ≡ Some at) place_is there) in
        meets.all node to (subst (λ (n : ℕ). slice_get flow.nodes n ≡ Some node) (sym same) found) edge
  ];
}
  where
    only_one : (xs : List ℕ) (i : ℕ) {x y : ℕ} → slice_get xs i ≡ Some x → slice_get xs i ≡ Some y → x ≡ y
    only_one xs i p q = cc

-- where edges were gone along from each node that was met, each reachable node was met
met_all : (flow : FlowGraph) (it : Numbered) (done : ℕ) → IsReaching flow it done → length it.order ≤ done → (at : ℕ) → IsReachableNode flow at
    → (place : ℕ) × (slice_get it.order place ≡ Some at)
met_all flow it done h all _ Entry = (0, h.entry)
met_all flow it done h all at (Behind {from} {node} reached here edge) =
    let before = met_all flow it done h all from reached in
    let within = slice_get_within it.order before.0 from before.1 in
    h.closed before.0 from at node (omega (arith, within, all)) before.1 here edge

-- then they are all
pub reached_all : (flow : FlowGraph) (it : Numbered) (done : ℕ) → IsReaching flow it done → IsNumbered it → slice_get it.order done ≡ None → AreReachable flow it.order
reached_all flow it done h is none = record {
  only = h.only;
  all = met_all flow it done h (none_left it.order done none);
  once = λ one other at p q. let e = sym (is.node_there one at p) ∙ is.node_there other at q in (cc);
}

-- a node that was met is one of the graph
pub node_within : (flow : FlowGraph) (it : Numbered) (done number node : ℕ) → IsReaching flow it done → IsNumbered it → slice_get it.order number ≡ Some node
    → node < length flow.nodes
node_within flow it done number node h is at =
    subst (λ (n : ℕ). node < n) h.nodes (slice_get_within it.numbers node (Some number) (is.node_there number node at))

-- there are no more nodes to go over than the graph has
pub done_within : (flow : FlowGraph) (it : Numbered) (done node : ℕ) → IsReaching flow it done → IsNumbered it → slice_get it.order done ≡ Some node
    → done < length flow.nodes
done_within flow it done node h is at =
    let within = slice_get_within it.order done node at in
    let counted = count_by-le-length is_some it.numbers in
    let as_many = is.as_many in
    let nodes = h.nodes in
    omega (arith, within, counted, as_many, nodes)
