-- What leads to each node, noted node by node.
use Rattle.std.proofs.Common.{◌≡◌, ◌≢◌, inl, inr, ℕ, ◌+◌, ◌<◌, List, length, replicate, Some, refl, sym, ◌∙◌, ap, subst, arith, length-set, get_or-set_same, get_or-set_other}
use Rattle.std.specs.Prelude.{slice_get, slice_set, slice_index_or}
use Rattle.std.proofs.lemmas.Bool.{cases_eq}
use Rattle.std.proofs.lemmas.List.{get_or-replicate, length-replicate}
use Rattle.pc_flow.specs.declared.node.FlowNode.{FlowNode}
use Rattle.pc_flow.specs.declared.node.FlowNode.TheVariants.{Op, Test, Stop, Trap}
use Rattle.pc_flow.specs.FlowGraph.{FlowGraph, HasEdge}
use Rattle.pc_flow.specs.Reachable.{IsReachableNode}
use Rattle.pc_scalar.specs.models.Ends.{NodeThere}
use Rattle.pc_forward.specs.declared.ways.Way.{Way}
use Rattle.pc_forward.specs.declared.ways.Way.TheVariants.{Nothing, Only, Several}
use Rattle.pc_forward.specs.Trail.{HasOneEdge, IsOnlyWay}
use Rattle.pc_forward.specs.models.Ways.{with_edge, with_edge_to, noted, IsWay}

-- one edge is an edge
pub one_is_edge : (node : FlowNode) (to : ℕ) → HasOneEdge node to → HasEdge node to
one_is_edge (Op item next) to e = e
one_is_edge (Test on on_yes on_no turn) to (inl h) = inl h.0
one_is_edge (Test on on_yes on_no turn) to (inr h) = inr h.0
one_is_edge Stop to e = e
one_is_edge (Trap kind line) to e = e

module _ (flow : FlowGraph) (bound : ℕ) where
  -- the node with this number does not lead to another
  abbrev NoEdge : ℕ → Type 0
  NoEdge to = (node : FlowNode) → IsReachableNode flow bound → slice_get flow.nodes bound ≡ Some node → HasEdge node to → ⊥

  -- one node more that does not lead there
  quiet : (to : ℕ) (known : Way) → IsWay flow bound to known → NoEdge to → IsWay flow (bound + 1) to known
  quiet to Nothing h none = (
    h.0,
    λ other node low reached there edge. elim (cases_eq other bound) [
      | inl same ↦ none node (subst (IsReachableNode flow) same reached) (subst (λ (n : ℕ). slice_get flow.nodes n ≡ Some node) same there) edge
      | inr apart ↦ h.1 other node (omega arith) reached there edge
    ],
  )
  quiet to (Only from) h none = (
    (let low = h.0 in omega (arith, low)),
    h.1,
    h.2,
    λ other node low reached there edge. elim (cases_eq other bound) [
      | inl same ↦ absurd (none node (subst (IsReachableNode flow) same reached) (subst (λ (n : ℕ). slice_get flow.nodes n ≡ Some node) same there) edge)
      | inr apart ↦ h.3 other node (omega arith) reached there edge
    ],
  )
  quiet to Several h none = h

  module _ (to : ℕ) (node : FlowNode) (reached : IsReachableNode flow bound) (there : slice_get flow.nodes bound ≡ Some node) where
    -- a node with one edge that leads there
    one_edge : (known : Way) → HasOneEdge node to → IsWay flow bound to known → IsWay flow (bound + 1) to (with_edge bound known)
    one_edge Nothing edge h = (
      omega arith,
      h.0,
      record { reached = reached; node = node; there = there; edge = edge },
      λ other also low got stands leads. elim (cases_eq other bound) [
        | inl same ↦ same
        | inr apart ↦ absurd (h.1 other also (omega arith) got stands leads)
      ],
    )
    one_edge (Only from) edge h = λ p way.
        let first = way.only from h.2.node h.2.reached h.2.there (one_is_edge h.2.node to h.2.edge) in
        let second = way.only bound node reached there (one_is_edge node to edge) in
        let low = h.0 in
        absurd (omega (arith, low, first, second))
    one_edge Several edge h = h

    -- one with two
    two_edges : (HasOneEdge node to → ⊥) → HasEdge node to → (from : ℕ) → IsOnlyWay flow from to → ⊥
    two_edges not_one edge from way =
        let same = way.only bound node reached there edge in
        let stands = subst (λ (n : ℕ). slice_get flow.nodes n ≡ Some node) same there in
        let is : way.node ≡ node = (let a = way.there in cc) in
        not_one (subst (λ (n : FlowNode). HasOneEdge n to) is way.edge)

-- two edges more leave no only way
twice_several : (from other : ℕ) (known : Way) → with_edge from (with_edge other known) ≡ Several
twice_several from other Nothing = refl
twice_several from other (Only first) = refl
twice_several from other Several = refl

-- the table at the place of an edge, and elsewhere
edge_there : (table : List Way) (to from : ℕ) → to < length table → slice_index_or (with_edge_to to from table) to Nothing ≡ with_edge from (slice_index_or table to Nothing)
edge_there table to from low = get_or-set_same table to (with_edge from (slice_index_or table to Nothing)) Nothing low

edge_elsewhere : (table : List Way) (to from at : ℕ) → at ≢ to → slice_index_or (with_edge_to to from table) at Nothing ≡ slice_index_or table at Nothing
edge_elsewhere table to from at apart = get_or-set_other table to at (with_edge from (slice_index_or table to Nothing)) Nothing apart

-- the node is not reached
pub note_none : (flow : FlowGraph) (bound : ℕ) (table : List Way) → (IsReachableNode flow bound → ⊥)
    → ((to : ℕ) → to < length flow.nodes → IsWay flow bound to (slice_index_or table to Nothing))
    → (to : ℕ) → to < length flow.nodes → IsWay flow (bound + 1) to (slice_index_or table to Nothing)
note_none flow bound table never each to low = quiet flow bound to (slice_index_or table to Nothing) (each to low) (λ node reached there edge. never reached)

-- its edges are noted
pub note_node : (flow : FlowGraph) (bound : ℕ) (table : List Way) (node : FlowNode) → length table ≡ length flow.nodes → IsReachableNode flow bound
    → slice_get flow.nodes bound ≡ Some node → NodeThere (length table) node
    → ((to : ℕ) → to < length flow.nodes → IsWay flow bound to (slice_index_or table to Nothing))
    → (to : ℕ) → to < length flow.nodes → IsWay flow (bound + 1) to (slice_index_or (noted node bound table) to Nothing)
note_node flow bound table (Op item next) long reached there within each to low = elim (cases_eq to next) [
  | inl same ↦
      subst (λ (n : ℕ). IsWay flow (bound + 1) n (slice_index_or (noted (Op item next) bound table) n Nothing)) (sym same)
      (subst (IsWay flow (bound + 1) next) (sym (edge_there table next bound within))
      (one_edge flow bound next (Op item next) reached there (slice_index_or table next Nothing) refl (each next (omega (arith, within, long)))))
  | inr apart ↦
      subst (IsWay flow (bound + 1) to) (sym (edge_elsewhere table next bound to apart))
      (quiet flow bound to (slice_index_or table to Nothing) (each to low) (λ other r stands edge.
      let is : Op item next ≡ other = (cc) in
      apart (sym (subst (λ (n : FlowNode). HasEdge n to) (sym is) edge))))
]
note_node flow bound table (Test on on_yes on_no turn) long reached there within each to low =
    let node = Test on on_yes on_no turn in
    let mid = with_edge_to on_yes bound table in
    let mid_long : length mid ≡ length table = length-set table on_yes (with_edge bound (slice_index_or table on_yes Nothing)) in
    elim (cases_eq to on_no) [
      | inl is_no ↦ elim (cases_eq to on_yes) [
        | inl is_yes ↦
            let here : slice_index_or (with_edge_to on_no bound (with_edge_to on_yes bound table)) to Nothing ≡ Several =
            ap (λ (n : ℕ). slice_index_or (with_edge_to on_no bound (with_edge_to on_yes bound table)) n Nothing) is_no
            ∙ edge_there (with_edge_to on_yes bound table) on_no bound (omega (arith, within.1, mid_long))
            ∙ ap (λ (n : ℕ). with_edge bound (slice_index_or (with_edge_to on_yes bound table) n Nothing)) (sym is_no ∙ is_yes)
            ∙ ap (with_edge bound) (edge_there table on_yes bound within.0)
            ∙ twice_several bound bound (slice_index_or table on_yes Nothing) in
            subst (IsWay flow (bound + 1) to) (sym here)
            (two_edges flow bound to (Test on on_yes on_no turn) reached there (λ one. elim one [ inl h ↦ h.1 (sym is_no) | inr h ↦ h.1 (sym is_yes) ]) (inl (sym is_yes)))
        | inr not_yes ↦
            let here : slice_index_or (with_edge_to on_no bound (with_edge_to on_yes bound table)) to Nothing ≡ with_edge bound (slice_index_or table to Nothing) =
            ap (λ (n : ℕ). slice_index_or (with_edge_to on_no bound (with_edge_to on_yes bound table)) n Nothing) is_no
            ∙ edge_there (with_edge_to on_yes bound table) on_no bound (omega (arith, within.1, mid_long))
            ∙ ap (λ (n : ℕ). with_edge bound (slice_index_or (with_edge_to on_yes bound table) n Nothing)) (sym is_no)
            ∙ ap (with_edge bound) (edge_elsewhere table on_yes bound to not_yes) in
            subst (IsWay flow (bound + 1) to) (sym here)
            (one_edge flow bound to (Test on on_yes on_no turn) reached there (slice_index_or table to Nothing) (inr (sym is_no, λ e. not_yes (sym e))) (each to low))
      ]
      | inr not_no ↦ elim (cases_eq to on_yes) [
        | inl is_yes ↦
            let here : slice_index_or (with_edge_to on_no bound (with_edge_to on_yes bound table)) to Nothing ≡ with_edge bound (slice_index_or table to Nothing) =
            edge_elsewhere (with_edge_to on_yes bound table) on_no bound to not_no
            ∙ ap (λ (n : ℕ). slice_index_or (with_edge_to on_yes bound table) n Nothing) is_yes ∙ edge_there table on_yes bound within.0
            ∙ ap (λ (n : ℕ). with_edge bound (slice_index_or table n Nothing)) (sym is_yes) in
            subst (IsWay flow (bound + 1) to) (sym here)
            (one_edge flow bound to (Test on on_yes on_no turn) reached there (slice_index_or table to Nothing) (inl (sym is_yes, λ e. not_no (sym e))) (each to low))
        | inr not_yes ↦
            subst (IsWay flow (bound + 1) to) (sym (edge_elsewhere (with_edge_to on_yes bound table) on_no bound to not_no ∙ edge_elsewhere table on_yes bound to not_yes))
            (quiet flow bound to (slice_index_or table to Nothing) (each to low) (λ other r stands edge.
            let same : Test on on_yes on_no turn ≡ other = (cc) in
            elim (subst (λ (n : FlowNode). HasEdge n to) (sym same) edge) [
              | inl e ↦ not_yes (sym e)
              | inr e ↦ not_no (sym e)
            ]))
      ]
    ]
note_node flow bound table Stop long reached there within each to low =
    quiet flow bound to (slice_index_or table to Nothing) (each to low) (λ other r stands edge.
    let same : Stop ≡ other = (cc) in subst (λ (n : FlowNode). HasEdge n to) (sym same) edge)
note_node flow bound table (Trap kind line) long reached there within each to low =
    quiet flow bound to (slice_index_or table to Nothing) (each to low) (λ other r stands edge.
    let same : Trap kind line ≡ other = (cc) in subst (λ (n : FlowNode). HasEdge n to) (sym same) edge)

-- before any edge was noted
pub note_first : (flow : FlowGraph) (table : List Way) → table ≡ slice_set (replicate (length flow.nodes) Nothing) flow.entry Several → flow.entry < length flow.nodes
    → (to : ℕ) → to < length flow.nodes → IsWay flow 0 to (slice_index_or table to Nothing)
note_first flow table e entry to low = subst (λ (t : List Way). IsWay flow 0 to (slice_index_or t to Nothing)) (sym e) (elim (cases_eq to flow.entry) [
  | inl same ↦
      let within : flow.entry < length (replicate (length flow.nodes) Nothing) = omega (arith, length-replicate (length flow.nodes) Nothing) in
      let is : slice_index_or (slice_set (replicate (length flow.nodes) Nothing) flow.entry Several) to Nothing ≡ Several =
      ap (λ (n : ℕ). slice_index_or (slice_set (replicate (length flow.nodes) Nothing) flow.entry Several) n Nothing) same
      ∙ get_or-set_same (replicate (length flow.nodes) Nothing) flow.entry Several Nothing within in
      subst (IsWay flow 0 to) (sym is) (λ from way. way.not_entry same)
  | inr apart ↦
      let is : slice_index_or (slice_set (replicate (length flow.nodes) Nothing) flow.entry Several) to Nothing ≡ Nothing =
      get_or-set_other (replicate (length flow.nodes) Nothing) flow.entry to Several Nothing apart ∙ get_or-replicate (length flow.nodes) to Nothing Nothing low in
      subst (IsWay flow 0 to) (sym is) (apart, λ other node none reached there edge. absurd (omega arith))
])

-- the table stays as long
pub noted_length : (node : FlowNode) (at : ℕ) (table : List Way) → length (noted node at table) ≡ length table
noted_length (Op item to) at table = length-set table to (with_edge at (slice_index_or table to Nothing))
noted_length (Test on on_yes on_no turn) at table =
    length-set (with_edge_to on_yes at table) on_no (with_edge at (slice_index_or (with_edge_to on_yes at table) on_no Nothing))
    ∙ length-set table on_yes (with_edge at (slice_index_or table on_yes Nothing))
noted_length Stop at table = refl
noted_length (Trap kind line) at table = refl
