-- What leads to each node, noted node by node.
use Rattle.std.proofs.Common.{◌≡◌, inl, inr, ℕ, ◌+◌, ◌<◌, List, length, replicate, Some, refl, sym, ◌∙◌, ap, subst, arith, length-set, get_or-set_same, get_or-set_other}
use Rattle.std.specs.Prelude.{slice_get, slice_set, slice_index_or}
use Rattle.std.proofs.lemmas.Bool.{cases_eq}
use Rattle.std.proofs.lemmas.List.{get_or-replicate, length-replicate}
use Rattle.pc_word.specs.declared.item.Item.{Item}
use Rattle.pc_flow.specs.declared.node.FlowNode.{FlowNode}
use Rattle.pc_flow.specs.declared.node.FlowNode.TheVariants.{Op, Test, Stop, Trap}
use Rattle.pc_flow.specs.FlowGraph.{FlowGraph, HasEdge}
use Rattle.pc_flow.specs.Reachable.{IsReachableNode}
use Rattle.pc_scalar.specs.declared.before.Predecessor.{Predecessor}
use Rattle.pc_scalar.specs.declared.before.Predecessor.TheVariants.{Nothing, Only, Several}
use Rattle.pc_scalar.specs.Chain.{FollowsAlone}
use Rattle.pc_scalar.specs.models.Ends.{NodeThere}
use Rattle.pc_scalar.specs.models.Before.{with_edge, noted, IsBefore}

module _ (flow : FlowGraph) (bound : ℕ) where
  -- whether the node with this number leads to another
  abbrev NoEdge : ℕ → Type 0
  NoEdge to = (node : FlowNode) → IsReachableNode flow bound → slice_get flow.nodes bound ≡ Some node → HasEdge node to → ⊥

  -- one node more that does not lead there
  quiet : (to : ℕ) (known : Predecessor) → IsBefore flow bound to known → NoEdge to → IsBefore flow (bound + 1) to known
  quiet to Nothing h none = (
    h.0,
    λ other node low reached there edge. elim (cases_eq other bound) [
      | inl same ↦ none node (subst (IsReachableNode flow) same reached) (subst (λ (n : ℕ). slice_get flow.nodes n ≡ Some node) same there) edge
      | inr apart ↦ h.1 other node (omega arith) reached there edge
    ],
  )
  quiet to (Only from) h none = (
    (let low = h.0 in omega (arith, low)),
    h.1,
    h.2,
    λ other node low reached there edge. elim (cases_eq other bound) [
      | inl same ↦ absurd (none node (subst (IsReachableNode flow) same reached) (subst (λ (n : ℕ). slice_get flow.nodes n ≡ Some node) same there) edge)
      | inr apart ↦ h.3 other node (omega arith) reached there edge
    ],
  )
  quiet to Several h none = h

  -- an item that leads there
  one_item : (to : ℕ) (item : Item) (known : Predecessor) → IsReachableNode flow bound → slice_get flow.nodes bound ≡ Some (Op item to) → IsBefore flow bound to known
      → IsBefore flow (bound + 1) to (with_edge bound known)
  one_item to item Nothing reached there h = (
    omega arith,
    h.0,
    record { reached = reached; item = item; there = there },
    λ other node low also stands edge. elim (cases_eq other bound) [
      | inl same ↦ same
      | inr apart ↦ absurd (h.1 other node (omega arith) also stands edge)
    ],
  )
  one_item to item (Only from) reached there h = λ p follows.
      let first = follows.only from (Op h.2.item to) h.2.reached h.2.there refl in
      let second = follows.only bound (Op item to) reached there refl in
      let low = h.0 in
      absurd (omega (arith, low, first, second))
  one_item to item Several reached there h = h

  -- a test that leads there
  one_test : (to : ℕ) (node : FlowNode) → ((item : Item) (next : ℕ) → node ≡ Op item next → ⊥) → IsReachableNode flow bound → slice_get flow.nodes bound ≡ Some node
      → HasEdge node to → (from : ℕ) → FollowsAlone flow from to → ⊥
  one_test to node no_item reached there edge from follows =
      let same = follows.only bound node reached there edge in
      let stands = subst (λ (n : ℕ). slice_get flow.nodes n ≡ Some node) same there in
      let is : node ≡ Op follows.item to = (let a = follows.there in cc) in
      no_item follows.item to is

-- the node is not reached
pub note_none : (flow : FlowGraph) (bound : ℕ) (table : List Predecessor) → (IsReachableNode flow bound → ⊥)
    → ((to : ℕ) → to < length flow.nodes → IsBefore flow bound to (slice_index_or table to Nothing))
    → (to : ℕ) → to < length flow.nodes → IsBefore flow (bound + 1) to (slice_index_or table to Nothing)
note_none flow bound table never each to low =
    quiet flow bound to (slice_index_or table to Nothing) (each to low) (λ node reached there edge. never reached)

-- its edges are noted
pub note_node : (flow : FlowGraph) (bound : ℕ) (table : List Predecessor) (node : FlowNode) → length table ≡ length flow.nodes → IsReachableNode flow bound
    → slice_get flow.nodes bound ≡ Some node → NodeThere (length table) node
    → ((to : ℕ) → to < length flow.nodes → IsBefore flow bound to (slice_index_or table to Nothing))
    → (to : ℕ) → to < length flow.nodes → IsBefore flow (bound + 1) to (slice_index_or (noted node bound table) to Nothing)
note_node flow bound table (Op item next) long reached there within each to low = elim (cases_eq to next) [
  | inl same ↦
      let is : slice_index_or (noted (Op item next) bound table) to Nothing ≡ with_edge bound (slice_index_or table next Nothing) =
      ap (λ (n : ℕ). slice_index_or (noted (Op item next) bound table) n Nothing) same ∙ get_or-set_same table next (with_edge bound (slice_index_or table next Nothing)) Nothing within in
      subst (IsBefore flow (bound + 1) to) (sym is)
      (subst (λ (n : ℕ). IsBefore flow (bound + 1) n (with_edge bound (slice_index_or table next Nothing))) (sym same)
      (one_item flow bound next item (slice_index_or table next Nothing) reached there (each next (omega (arith, within, long)))))
  | inr apart ↦
      subst (IsBefore flow (bound + 1) to) (sym (get_or-set_other table next to (with_edge bound (slice_index_or table next Nothing)) Nothing apart))
      (quiet flow bound to (slice_index_or table to Nothing) (each to low) (λ other r stands edge.
      let is : Op item next ≡ other = (cc) in
      apart (sym (subst (λ (n : FlowNode). HasEdge n to) (sym is) edge))))
]
note_node flow bound table (Test on on_yes on_no turn) long reached there within each to low = elim (cases_eq to on_no) [
  | inl same ↦
      let within_no : on_no < length (slice_set table on_yes Several) = omega (arith, within.1, length-set table on_yes Several) in
      let is : slice_index_or (noted (Test on on_yes on_no turn) bound table) to Nothing ≡ Several =
      ap (λ (n : ℕ). slice_index_or (noted (Test on on_yes on_no turn) bound table) n Nothing) same ∙ get_or-set_same (slice_set table on_yes Several) on_no Several Nothing within_no in
      subst (IsBefore flow (bound + 1) to) (sym is)
      (one_test flow bound to (Test on on_yes on_no turn) (λ item n e. cc) reached there (inr (sym same)))
  | inr not_no ↦ elim (cases_eq to on_yes) [
    | inl same ↦
        let is : slice_index_or (noted (Test on on_yes on_no turn) bound table) to Nothing ≡ Several =
        get_or-set_other (slice_set table on_yes Several) on_no to Several Nothing not_no
        ∙ ap (λ (n : ℕ). slice_index_or (slice_set table on_yes Several) n Nothing) same ∙ get_or-set_same table on_yes Several Nothing within.0 in
        subst (IsBefore flow (bound + 1) to) (sym is)
        (one_test flow bound to (Test on on_yes on_no turn) (λ item n e. cc) reached there (inl (sym same)))
    | inr not_yes ↦
        let is : slice_index_or (noted (Test on on_yes on_no turn) bound table) to Nothing ≡ slice_index_or table to Nothing =
        get_or-set_other (slice_set table on_yes Several) on_no to Several Nothing not_no ∙ get_or-set_other table on_yes to Several Nothing not_yes in
        subst (IsBefore flow (bound + 1) to) (sym is)
        (quiet flow bound to (slice_index_or table to Nothing) (each to low) (λ other r stands edge.
        let same : Test on on_yes on_no turn ≡ other = (cc) in
        elim (subst (λ (n : FlowNode). HasEdge n to) (sym same) edge) [
          | inl e ↦ not_yes (sym e)
          | inr e ↦ not_no (sym e)
        ]))
  ]
]
note_node flow bound table Stop long reached there within each to low =
    quiet flow bound to (slice_index_or table to Nothing) (each to low) (λ other r stands edge.
    let same : Stop ≡ other = (cc) in subst (λ (n : FlowNode). HasEdge n to) (sym same) edge)
note_node flow bound table (Trap kind line) long reached there within each to low =
    quiet flow bound to (slice_index_or table to Nothing) (each to low) (λ other r stands edge.
    let same : Trap kind line ≡ other = (cc) in subst (λ (n : FlowNode). HasEdge n to) (sym same) edge)

-- before any edge was noted
pub note_first : (flow : FlowGraph) (table : List Predecessor) → table ≡ slice_set (replicate (length flow.nodes) Nothing) flow.entry Several → flow.entry < length flow.nodes
    → (to : ℕ) → to < length flow.nodes → IsBefore flow 0 to (slice_index_or table to Nothing)
note_first flow table e entry to low = subst (λ (t : List Predecessor). IsBefore flow 0 to (slice_index_or t to Nothing)) (sym e) (elim (cases_eq to flow.entry) [
  | inl same ↦
      let within : flow.entry < length (replicate (length flow.nodes) Nothing) = omega (arith, length-replicate (length flow.nodes) Nothing) in
      let is : slice_index_or (slice_set (replicate (length flow.nodes) Nothing) flow.entry Several) to Nothing ≡ Several =
      ap (λ (n : ℕ). slice_index_or (slice_set (replicate (length flow.nodes) Nothing) flow.entry Several) n Nothing) same
      ∙ get_or-set_same (replicate (length flow.nodes) Nothing) flow.entry Several Nothing within in
      subst (IsBefore flow 0 to) (sym is) (λ from follows. follows.not_entry same)
  | inr apart ↦
      let is : slice_index_or (slice_set (replicate (length flow.nodes) Nothing) flow.entry Several) to Nothing ≡ Nothing =
      get_or-set_other (replicate (length flow.nodes) Nothing) flow.entry to Several Nothing apart ∙ get_or-replicate (length flow.nodes) to Nothing Nothing low in
      subst (IsBefore flow 0 to) (sym is) (apart, λ other node none reached there edge. absurd (omega arith))
])

-- the list stays as long
pub noted_length : (node : FlowNode) (at : ℕ) (table : List Predecessor) → length (noted node at table) ≡ length table
noted_length (Op item to) at table = length-set table to (with_edge at (slice_index_or table to Nothing))
noted_length (Test on on_yes on_no turn) at table = length-set (slice_set table on_yes Several) on_no Several ∙ length-set table on_yes Several
noted_length Stop at table = refl
noted_length (Trap kind line) at table = refl
