-- Planned nodes that are put into a graph one after the other.
use Rattle.std.proofs.Common.{◌≡◌, ℕ, zero, suc, ◌+◌, ◌<◌, ◌≤◌, List, [], ◌∷◌, ◌++◌, length, take, drop, get_or, set, Some, refl, sym, ◌∙◌, ap, subst, arith, append-nil, length-append, length-drop}
use Rattle.std.specs.Prelude.{slice_get, slice_set, slice_index_or}
use Rattle.std.proofs.lemmas.List.{length-take-le, take_more, drop_more, drop_all, take_all, set_at, get_or_at}
use Rattle.std.proofs.lemmas.Option.{slice_get-get_or}
use Rattle.pc_flow.specs.declared.node.FlowNode.{FlowNode}
use Rattle.pc_flow.specs.FlowGraph.{FlowGraph, NodeFits, KeepsTurn}
use Rattle.pc_flow.proofs.Graphs.{node-renewed}
use Rattle.pc_scalar.specs.models.Plan.{Fit}

-- the graph with so many of the planned nodes
abbrev pub mixed : ℕ → List FlowNode → FlowGraph → FlowGraph
mixed at nodes flow = record flow { nodes = take at nodes ++ drop at flow.nodes }

-- a graph with its own nodes
same_graph : (flow : FlowGraph) (nodes other : List FlowNode) → nodes ≡ other
    → (let one : FlowGraph = record flow { nodes = nodes } in one) ≡ (let two : FlowGraph = record flow { nodes = other } in two)
same_graph flow nodes other e = ap (λ (l : List FlowNode). let one : FlowGraph = record flow { nodes = l } in one) e

-- at first it is the graph itself
pub mixed_none : (nodes : List FlowNode) (flow : FlowGraph) → flow ≡ mixed 0 nodes flow
mixed_none nodes flow = refl

module _ (flow : FlowGraph) (nodes : List FlowNode) (fit : Fit flow nodes) where
  -- in the end it has all of them
  pub mixed_all : (at : ℕ) → length flow.nodes ≤ at → mixed at nodes flow ≡ (let whole : FlowGraph = record flow { nodes = nodes } in whole)
  mixed_all at end =
      let short : length nodes ≤ at = omega (arith, fit.as_many) in
      same_graph flow (take at nodes ++ drop at flow.nodes) nodes
      (ap (λ (l : List FlowNode). take at nodes ++ l) (drop_all at flow.nodes end) ∙ append-nil (take at nodes) ∙ take_all at nodes short)

  module _ (at : ℕ) (there : at < length flow.nodes) where
    front_length : length (take at nodes) ≡ at
    front_length = length-take-le at nodes (omega (arith, fit.as_many))

    -- it has as many nodes
    pub mixed_length : length (mixed at nodes flow).nodes ≡ length flow.nodes
    mixed_length = omega (arith, length-append (take at nodes) (drop at flow.nodes), length-drop at flow.nodes, front_length)

    module _ (new : FlowNode) (is : slice_get nodes at ≡ Some new) where
      old_is : (d : FlowNode) → slice_get flow.nodes at ≡ Some (get_or flow.nodes at d)
      old_is d = slice_get-get_or flow.nodes at d there

      -- the next one fits
      pub mixed_fits : NodeFits (mixed at nodes flow) at new
      mixed_fits = node-renewed flow (take at nodes ++ drop at flow.nodes) mixed_length at new (fit.each at (get_or flow.nodes at new) new (old_is new) is).0

      split : (d : FlowNode) → (mixed at nodes flow).nodes ≡ take at nodes ++ get_or flow.nodes at d ∷ drop (at + 1) flow.nodes
      split d = ap (λ (l : List FlowNode). take at nodes ++ l) (drop_more flow.nodes at d there)

      -- and tests no other loop's condition
      pub mixed_turn : KeepsTurn (slice_index_or (mixed at nodes flow).nodes at new) new
      mixed_turn =
          let stands : get_or (mixed at nodes flow).nodes at new ≡ get_or flow.nodes at new =
          ap (λ (l : List FlowNode). get_or l at new) (split new) ∙ get_or_at (take at nodes) (get_or flow.nodes at new) (drop (at + 1) flow.nodes) new at front_length in
          subst (λ (x : FlowNode). KeepsTurn x new) (sym stands) (fit.each at (get_or flow.nodes at new) new (old_is new) is).1

      -- with it one more is there
      pub mixed_more : (let one : FlowGraph = record (mixed at nodes flow) { nodes = slice_set (mixed at nodes flow).nodes at new } in one) ≡ mixed (at + 1) nodes flow
      mixed_more =
          let there_new : at < length nodes = omega (arith, fit.as_many) in
          let is_new : get_or nodes at new ≡ new = get_or_of nodes at new is in
          let one_more : take (at + 1) nodes ≡ take at nodes ++ new ∷ [] = take_more nodes at new there_new ∙ ap (λ (x : FlowNode). take at nodes ++ x ∷ []) is_new in
          same_graph flow (slice_set (mixed at nodes flow).nodes at new) (take (at + 1) nodes ++ drop (at + 1) flow.nodes)
          (ap (λ (l : List FlowNode). set l at new) (split new)
          ∙ set_at (take at nodes) (get_or flow.nodes at new) (drop (at + 1) flow.nodes) new at front_length
          ∙ rw one_more (sym (append_one (take at nodes) (drop (at + 1) flow.nodes) new)))
        where
          get_or_of : {X : Type 0} (xs : List X) (i : ℕ) (x : X) → slice_get xs i ≡ Some x → get_or xs i x ≡ x
          get_or_of [] i x e = refl
          get_or_of (y ∷ xs) zero x e = cc
          get_or_of (y ∷ xs) (suc i) x e = get_or_of xs i x e

          append_one : {X : Type 0} (xs ys : List X) (x : X) → (xs ++ x ∷ []) ++ ys ≡ xs ++ x ∷ ys
          append_one [] ys x = refl
          append_one {X = X} (y ∷ xs) ys x = ap (λ (l : List X). y ∷ l) (append_one xs ys x)
