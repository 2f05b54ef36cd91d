-- Edges counted up to 2, node by node.
use Rattle.std.proofs.Common.{◌≡◌, ℕ, zero, suc, ◌+◌, ◌<◌, ◌≤◌, Bool, true, false, List, [], ◌∷◌, ◌++◌, length, Option, Some, refl, sym, ◌∙◌, ap, subst, arith}
use Rattle.std.specs.Prelude.{if◌then◌else◌, nat_eq, slice_get, slice_set, slice_index, replicate}
use Rattle.std.proofs.lemmas.List.{length-replicate}
use Rattle.std.proofs.lemmas.List.Sums.{sum_by-append, sum_by-cons}
use Rattle.pc_word.proofs.Lists.{set_length, index_set_same, index_set_other}
use Rattle.pc_word.specs.declared.item.Item.{Item}
use Rattle.pc_word.specs.declared.item.Operand.{Operand}
use Rattle.pc_word.specs.declared.item.TrapKind.{TrapKind}
use Rattle.pc_flow.specs.declared.node.FlowNode.{FlowNode}
use Rattle.pc_flow.specs.declared.node.FlowNode.TheVariants.{Op, Test, Stop, Trap}
use Rattle.pc_flow.specs.FlowGraph.{FlowGraph, IsFlow}
use Rattle.pc_regions.specs.Reachable.{AreReachable, one_if, edges_of, in_edges}
use Rattle.pc_flow.specs.Reachable.{IsReachableNode, Entry, Behind}
use Rattle.pc_regions.specs.models.Counts.{up_to_two, CountsEdges, AddsEdge, AddsEdges}
use Rattle.pc_regions.proofs.Reaching.{item_leads, test_leads, edge_leads}
use Rattle.pc_word.proofs.Places.{index_stands, same_number, other_number}

-- ---- one edge

-- an edge to another node, and one to this
elsewhere : (next to : ℕ) (b : Bool) → nat_eq next to ≡ b → b ≡ false → one_if next to ≡ 0
elsewhere next to b e f = simp (e, f)

capped : (n k : ℕ) → n ≤ 2 → k ≡ 0 → n ≡ up_to_two (n + k)
capped n k h e = omega (arith, h, e)

-- the count of a node that has been raised
raised : (old : List ℕ) (next : ℕ) → next < length old → ((to : ℕ) → slice_index old to ≤ 2) → slice_index old next < 2 → (to : ℕ) (b : Bool) → nat_eq next to ≡ b
    → slice_index (slice_set old next (slice_index old next + 1)) to ≡ up_to_two (slice_index old to + (if b then 1 else 0))
raised old next within few low to true e =
    let same = same_number next to e in
    let there = index_set_same old next (slice_index old next + 1) within in
    let is : slice_index (slice_set old next (slice_index old next + 1)) to ≡ slice_index old next + 1 =
    subst (λ (n : ℕ). slice_index (slice_set old next (slice_index old next + 1)) n ≡ slice_index old next + 1) same there in
    let now : slice_index old to < 2 = subst (λ (n : ℕ). slice_index old n < 2) same low in
    let at : slice_index old next ≡ slice_index old to = ap (λ (n : ℕ). slice_index old n) same in
    is ∙ ap (λ (n : ℕ). n + 1) at ∙ small (slice_index old to) now
  where
    small : (n : ℕ) → n < 2 → n + 1 ≡ up_to_two (n + 1)
    small n h = omega (arith, h)
raised old next within few low to false e =
    index_set_other old next to (slice_index old next + 1) (other_number next to e) ∙ capped (slice_index old to) 0 (few to) refl

pub edge_raised : (next : ℕ) (old : List ℕ) → next < length old → ((to : ℕ) → slice_index old to ≤ 2) → slice_index old next < 2
    → AddsEdge next old (slice_set old next (slice_index old next + 1))
edge_raised next old within few low = record {
  as_many = set_length old next (slice_index old next + 1);
  added = λ to. raised old next within few low to (nat_eq next to) refl;
}

-- the count of a node that stands at 2
full : (old : List ℕ) (next : ℕ) → ((to : ℕ) → slice_index old to ≤ 2) → 2 ≤ slice_index old next → (to : ℕ) (b : Bool) → nat_eq next to ≡ b
    → slice_index old to ≡ up_to_two (slice_index old to + (if b then 1 else 0))
full old next few high to true e =
    let now : 2 ≤ slice_index old to = subst (λ (n : ℕ). 2 ≤ slice_index old n) (same_number next to e) high in
    let most = few to in
    omega (arith, now, most)
full old next few high to false e = capped (slice_index old to) 0 (few to) refl

pub edge_full : (next : ℕ) (old : List ℕ) → ((to : ℕ) → slice_index old to ≤ 2) → 2 ≤ slice_index old next → AddsEdge next old old
edge_full next old few high = record { as_many = refl; added = λ to. full old next few high to (nat_eq next to) refl }

pub ruleset one_edge = (edge_raised, edge_full)

-- ---- the edges of a node

-- after an edge more counts are at most 2
pub still_few : (next : ℕ) (old new : List ℕ) → AddsEdge next old new → (to : ℕ) → slice_index new to ≤ 2
still_few next old new adds to = let e = adds.added to in omega (arith, e)

module _ (nodes : List FlowNode) (from : ℕ) where
  counts_of : (node : FlowNode) (old new : List ℕ) → slice_get nodes from ≡ Some node → length new ≡ length old
      → ((to : ℕ) → slice_index new to ≡ up_to_two (slice_index old to + edges_of (Some node) to)) → AddsEdges nodes from old new
  counts_of node old new here as_many added = record {
    as_many = as_many;
    added = λ to. added to ∙ ap (λ (found : Option FlowNode). up_to_two (slice_index old to + edges_of found to)) (sym here);
  }

  pub item_edges : (item : Item) (next : ℕ) (old new : List ℕ) → slice_get nodes from ≡ Some (Op item next) → AddsEdge next old new → AddsEdges nodes from old new
  item_edges item next old new here adds = counts_of (Op item next) old new here adds.as_many adds.added

  pub test_edges : (on : Operand) (on_yes on_no : ℕ) (turn : Option ℕ) (old mid new : List ℕ) → slice_get nodes from ≡ Some (Test on on_yes on_no turn)
      → AddsEdge on_yes old mid → AddsEdge on_no mid new → AddsEdges nodes from old new
  test_edges on on_yes on_no turn old mid new here first second =
      counts_of (Test on on_yes on_no turn) old new here (second.as_many ∙ first.as_many)
      (λ to. both (slice_index old to) (slice_index mid to) (slice_index new to) (one_if on_yes to) (one_if on_no to) (first.added to) (second.added to))
    where
      both : (a b c p q : ℕ) → b ≡ up_to_two (a + p) → c ≡ up_to_two (b + q) → c ≡ up_to_two (a + (p + q))
      both a b c p q e f = omega (arith, e, f)

  pub stop_edges : (old : List ℕ) → slice_get nodes from ≡ Some Stop → ((to : ℕ) → slice_index old to ≤ 2) → AddsEdges nodes from old old
  stop_edges old here few = counts_of Stop old old here refl (λ to. capped (slice_index old to) 0 (few to) refl)

  pub trap_edges : (kind : TrapKind) (line : ℕ) (old : List ℕ) → slice_get nodes from ≡ Some (Trap kind line) → ((to : ℕ) → slice_index old to ≤ 2) → AddsEdges nodes from old old
  trap_edges kind line old here few = counts_of (Trap kind line) old old here refl (λ to. capped (slice_index old to) 0 (few to) refl)

pub ruleset edges = (item_leads, test_leads, item_edges, test_edges, stop_edges, trap_edges, still_few)

-- ---- the loop

-- a reachable node is there
pub reachable_there : (flow : FlowGraph) (at : ℕ) → IsFlow flow → IsReachableNode flow at → at < length flow.nodes
reachable_there flow _ is Entry = is.begins
reachable_there flow at is (Behind {from} {node} reached here edge) = edge_leads flow from at node is here edge

-- so is each of a list of them
pub listed_there : (flow : FlowGraph) (reachable : List ℕ) (place : ℕ) → IsFlow flow → AreReachable flow reachable → place < length reachable
    → slice_index reachable place < length flow.nodes
listed_there flow reachable place is are lt = reachable_there flow (slice_index reachable place) is (are.only place (slice_index reachable place) (index_stands reachable place lt))

-- no edge counted
pub none_counted : (flow : FlowGraph) → CountsEdges flow [] (replicate (length flow.nodes) 0)
none_counted flow = record { as_many = length-replicate (length flow.nodes) 0; counted = λ to. zeros (length flow.nodes) to }
  where
    zeros : (n to : ℕ) → slice_index (replicate n 0) to ≡ 0
    zeros zero to = refl
    zeros (suc n) zero = refl
    zeros (suc n) (suc to) = zeros n to

-- counts are at most 2
pub counts_few : (flow : FlowGraph) (froms counts : List ℕ) → CountsEdges flow froms counts → (to : ℕ) → slice_index counts to ≤ 2
counts_few flow froms counts h to = let e = h.counted to in omega (arith, e)

-- a node more
pub counted_more : (flow : FlowGraph) (froms old new : List ℕ) (from : ℕ) → CountsEdges flow froms old → AddsEdges flow.nodes from old new
    → CountsEdges flow (froms ++ from ∷ []) new
counted_more flow froms old new from h adds = record {
  as_many = adds.as_many ∙ h.as_many;
  counted = λ to.
      let more : in_edges flow (froms ++ from ∷ []) to ≡ in_edges flow froms to + edges_of (slice_get flow.nodes from) to =
      in_edges_more to in
      both (slice_index old to) (slice_index new to) (in_edges flow froms to) (edges_of (slice_get flow.nodes from) to) (in_edges flow (froms ++ from ∷ []) to)
      (h.counted to) (adds.added to) more;
}
  where
    both : (a b p q r : ℕ) → a ≡ up_to_two p → b ≡ up_to_two (a + q) → r ≡ p + q → b ≡ up_to_two r
    both a b p q r e f g = omega (arith, e, f, g)

    in_edges_more : (to : ℕ) → in_edges flow (froms ++ from ∷ []) to ≡ in_edges flow froms to + edges_of (slice_get flow.nodes from) to
    in_edges_more to =
        let whole = sum_by-append (λ f. edges_of (slice_get flow.nodes f) to) froms (from ∷ []) in
        let last = sum_by-cons (λ f. edges_of (slice_get flow.nodes f) to) from [] in
        omega (arith, whole, last)

-- what the loop over nodes needs
pub ruleset nodes_counted = (listed_there, none_counted, counts_few, counted_more)
