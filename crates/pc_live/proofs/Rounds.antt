-- Rounds over the nodes: sets that grow, and what they hold.
use Rattle.std.proofs.Common.{◌≡◌, inl, inr, ℕ, ◌-◌, ◌*◌, ◌^◌, ◌<◌, ◌≤◌, Bool, true, false, ◌||◌, List, length}
use Rattle.std.proofs.Common.{replicate, set, get_or, All, Option, Some, None, refl, sym, ◌∙◌, ap, subst, arith, length-set, get_or-set_same, get_or-set_other, true≢false}
use Rattle.std.proofs.lemmas.Bool.{cases_eq, cases_lt}
use Rattle.std.proofs.lemmas.List.{get_or-replicate, get_or_past, length-replicate}
use Rattle.std.proofs.lemmas.List.Sums.{sum_by-set, sum_by-le}
use Rattle.std.specs.Prelude.{slice_get, slice_set}
use Rattle.pc_word.proofs.Truth.{or_true, or_first, or_second}
use Rattle.pc_word.specs.declared.item.Item.{Item}
use Rattle.pc_flow.specs.declared.node.FlowNode.{FlowNode}
use Rattle.pc_flow.specs.declared.node.FlowNode.TheVariants.{Op, Test, Stop, Trap}
use Rattle.pc_flow.specs.FlowGraph.{FlowGraph, TestFits, variables, HasEdge}
use Rattle.pc_live.specs.declared.variable_set.VariableSet.{VariableSet}
use Rattle.pc_live.specs.Liveness.{member, set_at}
use Rattle.pc_live.specs.Backward.{behind, needs, needs_of, needs_at, AreBuilt, All_empty, One_grown, IsClosedAt}
use Rattle.pc_live.specs.models.Rounds.{AreGrown, total}
use Rattle.pc_live.proofs.Bits.{none_in_empty}

-- ---- targets

-- the nodes to which the edges of a test lead are there
pub test_targets : (flow : FlowGraph) (from on_yes on_no : ℕ) (turn : Option ℕ) → TestFits flow from on_yes on_no turn
    → (on_yes < length flow.nodes) × (on_no < length flow.nodes)
test_targets flow from on_yes on_no None h = (h.0.target, h.1.target)
test_targets flow from on_yes on_no (Some turn) h = (h.0, h.1)

-- ---- the sets after a node

-- a node to which an edge leads, with the variable in its set
pub record Behind (sets : List VariableSet) (node : FlowNode) (variable : ℕ) : Type 0 where
  pub next : ℕ
  pub leads : HasEdge node next
  pub has : member (set_at sets next) variable ≡ true

-- there is one where `after` passes
pub behind_some : (sets : List VariableSet) (node : FlowNode) (variable : ℕ) → behind sets node variable ≡ true → Behind sets node variable
behind_some sets (Op item to) variable h = record { next = to; leads = refl; has = h }
behind_some sets (Test on on_yes on_no turn) variable h =
    elim (or_true (member (set_at sets on_yes) variable) (member (set_at sets on_no) variable) h) [
      | inl p ↦ record { next = on_yes; leads = inl refl; has = p }
      | inr p ↦ record { next = on_no; leads = inr refl; has = p }
    ]
behind_some sets Stop variable h = absurd (cc)
behind_some sets (Trap kind line) variable h = absurd (cc)

-- and where there is one it passes
pub some_behind : (sets : List VariableSet) (node : FlowNode) (variable next : ℕ) → HasEdge node next → member (set_at sets next) variable ≡ true
    → behind sets node variable ≡ true
some_behind sets (Op item to) variable next leads h = subst (λ (n : ℕ). member (set_at sets n) variable ≡ true) (sym leads) h
some_behind sets (Test on on_yes on_no turn) variable next (inl e) h =
    or_first (member (set_at sets on_yes) variable) (member (set_at sets on_no) variable)
    (subst (λ (n : ℕ). member (set_at sets n) variable ≡ true) (sym e) h)
some_behind sets (Test on on_yes on_no turn) variable next (inr e) h =
    or_second (member (set_at sets on_yes) variable) (member (set_at sets on_no) variable)
    (subst (λ (n : ℕ). member (set_at sets n) variable ≡ true) (sym e) h)
some_behind sets Stop variable next leads h = absurd leads
some_behind sets (Trap kind line) variable next leads h = absurd leads

-- ---- sets that grow

-- sets have their bound where one of them is replaced
pub set_fits : (sets : List VariableSet) (at : ℕ) (new : VariableSet) → All (λ (s : VariableSet). s.bits ≤ 2 ^ 128) sets → new.bits ≤ 2 ^ 128
    → All (λ (s : VariableSet). s.bits ≤ 2 ^ 128) (set sets at new)
set_fits sets at new fit fits k d h =
    let there : k < length sets = subst (λ (n : ℕ). k < n) (length-set sets at new) h in
    elim (cases_eq k at) [
      | inl same ↦
          let is : get_or (set sets at new) k d ≡ new =
          ap (λ (i : ℕ). get_or (set sets at new) i d) same ∙ get_or-set_same sets at new d (subst (λ (i : ℕ). i < length sets) same there) in
          subst (λ (s : VariableSet). s.bits ≤ 2 ^ 128) (sym is) fits
      | inr other ↦ subst (λ (s : VariableSet). s.bits ≤ 2 ^ 128) (sym (get_or-set_other sets at k new d other)) (fit k d there)
    ]

-- sets come of empty ones where what a node needs is put into its set
pub update_grown : (counts : VariableSet → Item → Bool) (flow : FlowGraph) (sets : List VariableSet) (at : ℕ) (needed new : VariableSet)
    → AreGrown counts flow sets → at < length sets
    → ((x : ℕ) → x < variables → member needed x ≡ needs_at counts flow.nodes sets at x)
    → ((x : ℕ) → member new x ≡ (member (set_at sets at) x || member needed x))
    → new.bits ≤ 2 ^ 128
    → AreGrown counts flow (slice_set sets at new)
update_grown counts flow sets at needed new grown there needs_is both fits = record {
  fit = set_fits sets at new grown.fit fits;
  built = One_grown sets at new grown.built there (λ x small. both x ∙ ap (λ (b : Bool). member (set_at sets at) x || b) (needs_is x small));
}

-- empty sets have nothing
empty_lacks : (n : ℕ) (none : VariableSet) → ((x : ℕ) → member none x ≡ false) → (k x : ℕ) → member (set_at (replicate n none) k) x ≡ false
empty_lacks n none empty k x = elim (cases_lt k n) [
  | inl within ↦ ap (λ (s : VariableSet). member s x) (get_or-replicate n k none (record { bits = 0 }) within) ∙ empty x
  | inr past ↦
      let beyond : length (replicate n none) ≤ k = omega (arith, length-replicate n none) in
      ap (λ (s : VariableSet). member s x) (get_or_past (replicate n none) k (record { bits = 0 }) beyond) ∙ none_in_empty x
]

-- so do empty ones
pub start_grown : (counts : VariableSet → Item → Bool) (flow : FlowGraph) (n : ℕ) (none : VariableSet) → ((x : ℕ) → member none x ≡ false) → none.bits ≤ 2 ^ 128
    → AreGrown counts flow (replicate n none)
start_grown counts flow n none empty fits = record {
  fit = λ k d h.
      let within : k < n = omega (arith, length-replicate n none) in
      subst (λ (s : VariableSet). s.bits ≤ 2 ^ 128) (sym (get_or-replicate n k none d within)) fits;
  built = All_empty (empty_lacks n none empty);
}

-- ---- what sets hold that come of empty ones

-- Where what a node needs holds there, as soon as what the sets have does, all that such sets have holds.
module _ (counts : VariableSet → Item → Bool) (flow : FlowGraph) (Holds : ℕ → ℕ → Type 0)
    (step : (sets : List VariableSet) (at variable : ℕ) (node : FlowNode) → ((k x : ℕ) → x < variables → member (set_at sets k) x ≡ true → Holds x k)
    → variable < variables → slice_get flow.nodes at ≡ Some node → needs counts sets node variable ≡ true → Holds variable at) where
  needed_holds : (sets : List VariableSet) (at variable : ℕ) → ((k x : ℕ) → x < variables → member (set_at sets k) x ≡ true → Holds x k) → variable < variables
      → (there : Option FlowNode) → slice_get flow.nodes at ≡ there → needs_of counts sets there variable ≡ true → Holds variable at
  needed_holds sets at variable holds small (Some node) e h = step sets at variable node holds small e h
  needed_holds sets at variable holds small None e h = absurd (cc)

  -- in sets of which one grew
  grown_holds : (sets : List VariableSet) (at : ℕ) (new : VariableSet) → ((k x : ℕ) → x < variables → member (set_at sets k) x ≡ true → Holds x k) → at < length sets
      → ((x : ℕ) → x < variables → member new x ≡ (member (set_at sets at) x || needs_at counts flow.nodes sets at x))
      → (k x : ℕ) → x < variables → member (set_at (slice_set sets at new) k) x ≡ true → Holds x k
  grown_holds sets at new holds there both k x small h = elim (cases_eq k at) [
    | inl same ↦
        let is : set_at (slice_set sets at new) k ≡ new =
        ap (λ (i : ℕ). set_at (slice_set sets at new) i) same ∙ get_or-set_same sets at new (record { bits = 0 }) there in
        let in_new : member new x ≡ true = ap (λ (s : VariableSet). member s x) (sym is) ∙ h in
        subst (Holds x) (sym same) (elim (or_true (member (set_at sets at) x) (needs_at counts flow.nodes sets at x) (sym (both x small) ∙ in_new)) [
          | inl old ↦ holds at x small old
          | inr more ↦ needed_holds sets at x holds small (slice_get flow.nodes at) refl more
        ])
    | inr other ↦
        let is : set_at (slice_set sets at new) k ≡ set_at sets k = get_or-set_other sets at k new (record { bits = 0 }) other in
        holds k x small (ap (λ (s : VariableSet). member s x) (sym is) ∙ h)
  ]

  pub built_holds : (sets : List VariableSet) → AreBuilt counts flow sets → (k x : ℕ) → x < variables → member (set_at sets k) x ≡ true → Holds x k
  built_holds _ (All_empty empty) k x small h = absurd (true≢false (sym h ∙ empty k x))
  built_holds _ (One_grown sets at new built there both) k x small h =
      grown_holds sets at new (built_holds sets built) there both k x small h

-- ---- nodes that have had their turn

-- one node more had its turn, and its set did not grow
pub turn_closed : (counts : VariableSet → Item → Bool) (flow : FlowGraph) (sets new : List VariableSet) (at : ℕ) → new ≡ sets → IsClosedAt counts flow sets (at - 1)
    → ((k : ℕ) → at ≤ k → k < length flow.nodes → IsClosedAt counts flow sets k)
    → (k : ℕ) → at - 1 ≤ k → k < length flow.nodes → IsClosedAt counts flow new k
turn_closed counts flow sets new at same here rest k low there = subst (λ (s : List VariableSet). IsClosedAt counts flow s k) (sym same) (elim (cases_eq k (at - 1)) [
  | inl e ↦ subst (IsClosedAt counts flow sets) (sym e) here
  | inr other ↦ rest k (omega arith) there
])

-- ---- the total

-- it rises where a set does
pub total_rises : (sets : List VariableSet) (at : ℕ) (new : VariableSet) → at < length sets → (set_at sets at).bits < new.bits
    → total sets < total (slice_set sets at new)
total_rises sets at new there h =
    let e = sum_by-set (λ (s : VariableSet). s.bits) sets at new (record { bits = 0 }) there in
    omega arith

-- it has a bound
pub total_bound : (sets : List VariableSet) → All (λ (s : VariableSet). s.bits ≤ 2 ^ 128) sets → total sets ≤ length sets * 2 ^ 128
total_bound sets h = sum_by-le (λ (s : VariableSet). s.bits) (2 ^ 128) sets h
