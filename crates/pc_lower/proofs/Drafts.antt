-- A draft in which a node was placed.
use Rattle.std.proofs.Common.{◌≡◌, ◌≢◌, ℕ, zero, suc, ◌+◌, ◌<◌, ◌≤◌, ◌⊎◌, inl, inr, List, length, replicate, Option, Some, None, refl, sym, ◌∙◌, ap, subst, arith}
use Rattle.std.specs.Prelude.{ℤ, IfSome, slice_get, slice_set, slice_index}
use Rattle.std.proofs.lemmas.List.{length-replicate}
use Rattle.pc_word.specs.declared.item.Operand.{Operand}
use Rattle.pc_word.specs.declared.loop_mark.LoopMark.{LoopMark}
use Rattle.pc_flow.proofs.Graphs.{set_node_keeps}
use Rattle.pc_word.specs.SourceLimits.{most_nodes}
use Rattle.pc_word.proofs.Lists.{set_at, set_length, index_set_same, index_set_other}
use Rattle.pc_flow.specs.declared.node.FlowNode.{FlowNode}
use Rattle.pc_flow.specs.declared.node.FlowNode.TheVariants.{Op, Test, Stop, Trap}
use Rattle.pc_flow.specs.FlowGraph.{FlowGraph, IsTarget, Descends, NodeFits, tested_loop}
use Rattle.pc_lower.specs.LoopTests.{HasTest, TestsInside}
use Rattle.pc_lower.proofs.LoopMarks.{header_length, header_outer}
use Rattle.pc_lower.specs.models.Drafts.{Draft, IsDraft, IsPlaced, LeadsToPlaced, MayPlace, CanPlace, graph_with, draft_with, CanAim, aimed, headed, MayBegin, first_draft}
use Rattle.pc_word.proofs.Places.{set_there, set_elsewhere}

-- two numbers are the same or not
decide_same : (i j : ℕ) → (i ≡ j) ⊎ (i ≢ j)
decide_same zero zero = inl refl
decide_same zero (suc j) = inr (λ e. absurd (cc))
decide_same (suc i) zero = inr (λ e. absurd (cc))
decide_same (suc i) (suc j) = elim (decide_same i j) [
  | inl e ↦ inl (ap suc e)
  | inr h ↦ inr (λ e. h (omega (arith, e)))
]

-- a node at a number stands in a loop, if it is that loop's test
abbrev PlacedIn : List (Option ℕ) → ℕ → FlowNode → Type 0
PlacedIn places number node = IfSome (tested_loop node) (λ turn. slice_get places number ≡ Some (Some turn))

module _ (draft : Draft) (at : ℕ) (node : FlowNode) (inside : Option ℕ) (keeps : IsDraft draft) (can : CanPlace draft at node inside) where
  abbrev old : FlowGraph
  old = draft.graph

  abbrev new : FlowGraph
  new = graph_with at node inside (draft.ranked + 1) draft.graph

  -- as many nodes
  pub as_many : length new.nodes ≡ length old.nodes
  as_many = set_length old.nodes at node

  target-with : (to : ℕ) → IsTarget old to → IsTarget new to
  target-with to h = subst (λ (n : ℕ). to < n) (sym as_many) h

  -- what was placed before is another number
  other : (to : ℕ) → IsPlaced old to → at ≢ to
  other to placed e =
      let none : slice_index old.ranks to ≡ 0 = ap (slice_index old.ranks) (sym e) ∙ can.at_open.unranked in
      let some = placed.ranked in
      absurd (omega (arith, none, some))

  -- and keeps its rank
  pub rank-other : (to : ℕ) → at ≢ to → slice_index new.ranks to ≡ slice_index old.ranks to
  rank-other to h = index_set_other old.ranks at to (draft.ranked + 1) h

  -- the rank of the node that was placed
  pub rank-same : slice_index new.ranks at ≡ draft.ranked + 1
  rank-same = index_set_same old.ranks at (draft.ranked + 1) (subst (λ (n : ℕ). at < n) (sym keeps.flow.all_ranked) can.at_open.there)

  placed-with : (to : ℕ) → IsPlaced old to → IsPlaced new to
  placed-with to h = record {
    there = target-with to h.there;
    ranked = subst (λ (n : ℕ). 1 ≤ n) (sym (rank-other to (other to h))) h.ranked;
  }

  leads-with : (one : FlowNode) → LeadsToPlaced old one → LeadsToPlaced new one
  leads-with (Op item to) h = placed-with to h
  leads-with (Test on on_yes on_no None) h = (placed-with on_yes h.0, placed-with on_no h.1)
  leads-with (Test on on_yes on_no (Some turn)) h = (target-with on_yes h.0, target-with on_no h.1, h.2)
  leads-with Stop h = tt
  leads-with (Trap kind line) h = tt

  -- from the new node to one that was placed before, the rank falls
  descends-new : (to : ℕ) → IsPlaced old to → Descends new at to
  descends-new to h =
      let rank = rank-other to (other to h) in
      let most = keeps.below to in
      let mine = rank-same in
      record { target = target-with to h.there; lower = omega (arith, rank, most, mine) }

  -- the new node fits
  new-fits : (one : FlowNode) → MayPlace old one → NodeFits new at one
  new-fits (Op item to) h = (h.names, descends-new to h.leads)
  new-fits (Test on on_yes on_no None) h = (h.names, (descends-new on_yes h.leads.0, descends-new on_no h.leads.1))
  new-fits (Test on on_yes on_no (Some turn)) h = (h.names, (target-with on_yes h.leads.0, target-with on_no h.leads.1, h.leads.2))
  new-fits Stop h = tt
  new-fits (Trap kind line) h = tt

  -- from another node to one that was placed before, the rank falls as it did
  descends-other : (from to : ℕ) → at ≢ from → IsPlaced old to → Descends old from to → Descends new from to
  descends-other from to h placed d =
      let mine = rank-other from h in
      let its = rank-other to (other to placed) in
      let lower = d.lower in
      record { target = target-with to d.target; lower = omega (arith, mine, its, lower) }

  other-fits : (from : ℕ) (one : FlowNode) → at ≢ from → LeadsToPlaced old one → NodeFits old from one → NodeFits new from one
  other-fits from (Op item to) h l f = (f.0, descends-other from to h l f.1)
  other-fits from (Test on on_yes on_no None) h l f =
      (f.0, (descends-other from on_yes h l.0 f.1.0, descends-other from on_no h l.1 f.1.1))
  other-fits from (Test on on_yes on_no (Some turn)) h l f = (f.0, (target-with on_yes f.1.0, target-with on_no f.1.1, f.1.2))
  other-fits from Stop h l f = tt
  other-fits from (Trap kind line) h l f = tt

  -- each node fits: the new one, and the others
  fits-with : (number : ℕ) (one : FlowNode) → slice_get new.nodes number ≡ Some one → NodeFits new number one
  fits-with number one e = elim (set_at old.nodes at number node one e) [
    | inl h ↦ subst (λ (n : ℕ). NodeFits new n one) (sym h.0) (subst (NodeFits new at) (sym h.1) (new-fits node can.fits))
    | inr h ↦ other-fits number one (λ same. h.0 (sym same)) (keeps.leads number one h.1) (keeps.flow.nodes_fit number one h.1)
  ]

  -- and leads to nodes that were placed
  all-lead : (number : ℕ) (one : FlowNode) → slice_get new.nodes number ≡ Some one → LeadsToPlaced new one
  all-lead number one e = elim (set_at old.nodes at number node one e) [
    | inl h ↦ leads-with one (subst (LeadsToPlaced old) (sym h.1) can.fits.leads)
    | inr h ↦ leads-with one (keeps.leads number one h.1)
  ]

  -- a test of a loop that is placed stands in it
  stands-new : (turn : Option ℕ) → IfSome turn (λ turn. inside ≡ Some turn) → IfSome turn (λ turn. slice_get new.inside at ≡ Some (Some turn))
  stands-new None h = tt
  stands-new (Some turn) h =
      let there = subst (λ (n : ℕ). at < n) (sym keeps.flow.all_placed) can.at_open.there in
      set_there old.inside at inside there ∙ ap Some h

  -- and so does each
  all-stand : TestsInside new
  all-stand number one e = elim (set_at old.nodes at number node one e) [
    | inl h ↦ subst (λ (n : ℕ). PlacedIn new.inside n one) (sym h.0) (subst (PlacedIn new.inside at) (sym h.1) (stands-new (tested_loop node) can.stands))
    | inr h ↦
        let same = set_elsewhere old.inside at number inside (λ e. h.0 (sym e)) in
        subst (λ (place : Option (Option ℕ)). IfSome (tested_loop one) (λ turn. place ≡ Some (Some turn))) (sym same) (keeps.tests_inside number one h.1)
  ]

  -- no rank is above the new one
  ranks-below : (number : ℕ) → slice_index new.ranks number ≤ draft.ranked + 1
  ranks-below number = elim (decide_same at number) [
    | inl same ↦ let rank = ap (slice_index new.ranks) (sym same) ∙ rank-same in omega (arith, rank)
    | inr differ ↦ let rank = rank-other number differ in let most = keeps.below number in omega (arith, rank, most)
  ]

  -- each node is in a loop that there is, or in none
  loops-with : (number loop : ℕ) → slice_get new.inside number ≡ Some (Some loop)
      → loop < length old.loops
  loops-with number loop e = elim (set_at old.inside at number inside (Some loop) e) [
    | inl h ↦ subst (λ (o : Option ℕ). IfSome o (λ l. l < length old.loops)) (sym h.1) can.loop_there
    | inr h ↦ keeps.flow.loops_there number loop h.1
  ]

  -- the draft stays one
  pub place_keeps : IsDraft (draft_with at node inside draft)
  place_keeps = record {
    flow = record {
      some_nodes = subst (λ (n : ℕ). 1 ≤ n) (sym as_many) keeps.flow.some_nodes;
      few_nodes = subst (λ (n : ℕ). n ≤ most_nodes) (sym as_many) keeps.flow.few_nodes;
      all_ranked = set_length old.ranks at (draft.ranked + 1) ∙ keeps.flow.all_ranked ∙ sym as_many;
      all_placed = set_length old.inside at inside ∙ keeps.flow.all_placed ∙ sym as_many;
      begins = target-with old.entry keeps.flow.begins;
      few_arrays = keeps.flow.few_arrays;
      data_fit = keeps.flow.data_fit;
      data_words = keeps.flow.data_words;
      loops_there = loops-with;
      outer_first = keeps.flow.outer_first;
      nodes_fit = fits-with;
    };
    leads = all-lead;
    tests_inside = all-stand;
    below = ranks-below;
    few = let room = can.room in omega (arith, room);
  }

-- ---- the test of a loop, which leads elsewhere

module _ (draft : Draft) (at : ℕ) (on : Operand) (on_yes on_no turn : ℕ) (keeps : IsDraft draft) (can : CanAim draft at on on_yes on_no turn) (test : HasTest draft.graph at turn) where
  abbrev node_aimed : FlowNode
  node_aimed = Test on on_yes on_no (Some turn)

  abbrev graph_aimed : FlowGraph
  graph_aimed = record draft.graph { nodes = slice_set draft.graph.nodes at node_aimed }

  target-aimed : (to : ℕ) → IsTarget draft.graph to → IsTarget graph_aimed to
  target-aimed to h = subst (λ (n : ℕ). to < n) (sym (set_length draft.graph.nodes at node_aimed)) h

  leads-aimed : (one : FlowNode) → LeadsToPlaced draft.graph one → LeadsToPlaced graph_aimed one
  leads-aimed (Op item to) h = record { there = target-aimed to h.there; ranked = h.ranked }
  leads-aimed (Test test one other None) h =
      (record { there = target-aimed one h.0.there; ranked = h.0.ranked }, record { there = target-aimed other h.1.there; ranked = h.1.ranked })
  leads-aimed (Test test one other (Some loop)) h = (target-aimed one h.0, target-aimed other h.1, h.2)
  leads-aimed Stop h = tt
  leads-aimed (Trap kind line) h = tt

  all-aimed : (number : ℕ) (one : FlowNode) → slice_get graph_aimed.nodes number ≡ Some one → LeadsToPlaced graph_aimed one
  all-aimed number one e = elim (set_at draft.graph.nodes at number node_aimed one e) [
    | inl h ↦ subst (LeadsToPlaced graph_aimed) (sym h.1) (target-aimed on_yes can.yes_there, target-aimed on_no can.no_there, can.turn_there)
    | inr h ↦ leads-aimed one (keeps.leads number one h.1)
  ]

  -- the test stands where the one before it stood
  stands-aimed : slice_get draft.graph.inside at ≡ Some (Some turn)
  stands-aimed =
      subst (λ (loop : Option ℕ). IfSome loop (λ turn. slice_get draft.graph.inside at ≡ Some (Some turn))) test.tests
      (keeps.tests_inside at test.node test.is_there)

  all-stand-aimed : TestsInside graph_aimed
  all-stand-aimed number one e = elim (set_at draft.graph.nodes at number node_aimed one e) [
    | inl h ↦ subst (λ (n : ℕ). PlacedIn draft.graph.inside n one) (sym h.0) (subst (PlacedIn draft.graph.inside at) (sym h.1) stands-aimed)
    | inr h ↦ keeps.tests_inside number one h.1
  ]

  -- the draft stays one
  pub aim_keeps : IsDraft (aimed at node_aimed draft)
  aim_keeps = record {
    flow = set_node_keeps draft.graph at node_aimed keeps.flow (can.names, (can.yes_there, can.no_there, can.turn_there));
    leads = all-aimed;
    tests_inside = all-stand-aimed;
    below = keeps.below;
    few = keeps.few;
  }

-- ---- the header of a loop

module _ (draft : Draft) (number header : ℕ) (keeps : IsDraft draft) where
  abbrev graph_headed : FlowGraph
  graph_headed = (headed number header draft).graph

  -- as many loops
  turn-headed : (turn : ℕ) → turn < length draft.graph.loops → turn < length graph_headed.loops
  turn-headed turn h = subst (λ (n : ℕ). turn < n) (sym (header_length draft.graph.loops number header)) h

  leads-headed : (one : FlowNode) → LeadsToPlaced draft.graph one → LeadsToPlaced graph_headed one
  leads-headed (Op item to) h = record { there = h.there; ranked = h.ranked }
  leads-headed (Test test one other None) h =
      (record { there = h.0.there; ranked = h.0.ranked }, record { there = h.1.there; ranked = h.1.ranked })
  leads-headed (Test test one other (Some loop)) h = (h.0, h.1, turn-headed loop h.2)
  leads-headed Stop h = tt
  leads-headed (Trap kind line) h = tt

  fits-headed : (from : ℕ) (one : FlowNode) → NodeFits draft.graph from one → NodeFits graph_headed from one
  fits-headed from (Op item to) f = (f.0, record { target = f.1.target; lower = f.1.lower })
  fits-headed from (Test test one other None) f =
      (f.0, (record { target = f.1.0.target; lower = f.1.0.lower }, record { target = f.1.1.target; lower = f.1.1.lower }))
  fits-headed from (Test test one other (Some loop)) f = (f.0, (f.1.0, f.1.1, turn-headed loop f.1.2))
  fits-headed from Stop f = tt
  fits-headed from (Trap kind line) f = tt

  -- a loop's outer loop has a smaller number
  outer-headed : (loop : ℕ) (one : LoopMark) → slice_get graph_headed.loops loop ≡ Some one → IfSome one.outer (λ outer. outer < loop)
  outer-headed loop one e =
      let old = header_outer draft.graph.loops number header loop one e in
      subst (λ (o : Option ℕ). IfSome o (λ outer. outer < loop)) old.2 (keeps.flow.outer_first loop old.0 old.1)

  -- the draft stays one
  pub header_keeps : IsDraft (headed number header draft)
  header_keeps = record {
    flow = record {
      some_nodes = keeps.flow.some_nodes;
      few_nodes = keeps.flow.few_nodes;
      all_ranked = keeps.flow.all_ranked;
      all_placed = keeps.flow.all_placed;
      begins = keeps.flow.begins;
      few_arrays = keeps.flow.few_arrays;
      data_fit = keeps.flow.data_fit;
      data_words = keeps.flow.data_words;
      loops_there = λ node loop e. turn-headed loop (keeps.flow.loops_there node loop e);
      outer_first = outer-headed;
      nodes_fit = λ from one e. fits-headed from one (keeps.flow.nodes_fit from one e);
    };
    leads = λ from one e. leads-headed one (keeps.leads from one e);
    tests_inside = keeps.tests_inside;
    below = keeps.below;
    few = keeps.few;
  }

-- ---- from the first to the last

-- what stands at a place of a list of one element alone
replicate_at : {X : Type 0} (n i : ℕ) (x y : X) → slice_get (replicate n x) i ≡ Some y → y ≡ x
replicate_at zero i x y e = absurd (cc)
replicate_at (suc n) zero x y e = let same : x ≡ y = (cc) in sym same
replicate_at (suc n) (suc i) x y e = replicate_at n i x y e

-- and of a list of zeros
pub zero_at : (n i : ℕ) → slice_index (replicate n 0) i ≡ 0
zero_at zero i = refl
zero_at (suc n) zero = refl
zero_at (suc n) (suc i) = zero_at n i

-- a draft of which nothing is placed is one
pub first_keeps : (count : ℕ) (loops : List LoopMark) (arrays : List ℕ) (initial : List (List ℤ)) → MayBegin count loops arrays initial → IsDraft (first_draft count loops arrays initial)
first_keeps count loops arrays initial may =
    let as_many = length-replicate count Stop in
    let graph = (first_draft count loops arrays initial).graph in
    record {
      flow = record {
        some_nodes = subst (λ (n : ℕ). 1 ≤ n) (sym as_many) may.some_nodes;
        few_nodes = subst (λ (n : ℕ). n ≤ most_nodes) (sym as_many) may.few_nodes;
        all_ranked = length-replicate count 0 ∙ sym as_many;
        all_placed = length-replicate count None ∙ sym as_many;
        begins = subst (λ (n : ℕ). 0 < n) (sym as_many) may.some_nodes;
        few_arrays = may.few_arrays;
        data_fit = may.data_fit;
        data_words = may.data_words;
        loops_there = λ number loop e. absurd (none_some (replicate_at count number None (Some loop) e));
        outer_first = may.outer_first;
        nodes_fit = λ number node e. subst (NodeFits graph number) (sym (replicate_at count number Stop node e)) tt;
      };
      leads = λ number node e. subst (LeadsToPlaced graph) (sym (replicate_at count number Stop node e)) tt;
      tests_inside = λ number node e. subst (PlacedIn graph.inside number) (sym (replicate_at count number Stop node e)) tt;
      below = λ number. let rank = zero_at count number in omega (arith, rank);
      few = omega arith;
    }
  where
    none_some : {X : Type 0} {x : X} → ◌≡◌ {A = Option X} (Some x) None → ⊥
    none_some e = cc
