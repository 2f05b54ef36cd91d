-- What stands on a way, transition by transition.
use Rattle.std.proofs.Common.{Bool, ◌≡◌, ℕ, zero, suc, ◌+◌, ◌<◌, ◌^◌, List, [], ◌∷◌, ◌++◌, append_assoc, length, drop, get_or, Some, refl, sym, ◌∙◌, ap, arith}
use Rattle.std.specs.Prelude.{Option, None, slice_get}
use Rattle.std.proofs.lemmas.List.{length-map, drop_more}
use Rattle.std.proofs.lemmas.Option.{slice_get-get_or}
use Rattle.pc_word.specs.declared.item.Item.{Item}
use Rattle.pc_word.specs.declared.item.Operand.{Operand}
use Rattle.pc_word.specs.Row.{leaves_of}
use Rattle.pc_word.specs.StoredRow.{row_in}
use Rattle.pc_word.proofs.Lists.{all_at}
use Rattle.pc_word.proofs.Places.{map_at}
use Rattle.pc_automaton.specs.declared.automaton.AutomatonState.{AutomatonState as StoredState}
use Rattle.pc_automaton.specs.Automaton.{AutomatonState, state_in, states_in}
use Rattle.pc_told.specs.declared.told_row.ToldRow.{ToldRow}
use Rattle.pc_told.specs.Tellings.{Telling, telling_in, tellings_in}
use Rattle.pc_cycles.specs.declared.transition.Transition.{Transition}
use Rattle.pc_cycles.specs.Transitions.{leaf_to, successor_of, successor_from, next_of, items_to, tests_to, taken_to, origins_to, told_items_to, advance_to, items_from, tests_from, taken_from, origins_from, told_items_from, advance_from, items_along, tests_along, taken_along, origins_along}
use Rattle.pc_cycles.specs.Chains.{passed_by, passed_from}
use Rattle.pc_cycles.specs.models.Circles.{AreThere, HaveFewLeaves}

-- ---- in memory

module _ (stored : List StoredState) where
  -- the state of each transition of a way is there
  pub state_there : (way : List Transition) (at : ℕ) (d : Transition) → AreThere (states_in stored) way → at < length way → (get_or way at d).state < length stored
  state_there way at d there below =
      let here = all_at (λ (transition : Transition). transition.state < length (states_in stored)) way at (get_or way at d) there (slice_get-get_or way at d below) in
      let as_many = length-map stored state_in in
      omega (arith, here, as_many)

  -- its row has few leaves
  pub few_of_state : (number : ℕ) (state : StoredState) → HaveFewLeaves (states_in stored) → slice_get stored number ≡ Some state
      → length (leaves_of (row_in (λ leaf. leaf) state.row)) < 2 ^ 32
  few_of_state number state few there =
      all_at (λ (state : AutomatonState). length (leaves_of state.row) < 2 ^ 32) (states_in stored) number (state_in state) few (map_at state_in stored number state there)

  -- what stands on the path to one of them
  pub items_of_state : (number leaf : ℕ) (state : StoredState) → slice_get stored number ≡ Some state
      → items_to (row_in (λ leaf. leaf) state.row) leaf ≡ items_from (slice_get (states_in stored) number) leaf
  items_of_state number leaf state there = sym (ap (λ (o : Option AutomatonState). items_from o leaf) (map_at state_in stored number state there))

  pub tests_of_state : (number leaf : ℕ) (state : StoredState) → slice_get stored number ≡ Some state
      → tests_to (row_in (λ leaf. leaf) state.row) leaf ≡ tests_from (slice_get (states_in stored) number) leaf
  tests_of_state number leaf state there = sym (ap (λ (o : Option AutomatonState). tests_from o leaf) (map_at state_in stored number state there))

  pub taken_of_state : (number leaf : ℕ) (state : StoredState) → slice_get stored number ≡ Some state
      → taken_to (row_in (λ leaf. leaf) state.row) leaf ≡ taken_from (slice_get (states_in stored) number) leaf
  taken_of_state number leaf state there = sym (ap (λ (o : Option AutomatonState). taken_from o leaf) (map_at state_in stored number state there))

  pub told_items_of_state : (rows : List ToldRow) (number leaf : ℕ) (state : StoredState) (row : ToldRow) → slice_get stored number ≡ Some state
      → slice_get rows number ≡ Some row
      → told_items_to (row_in (λ leaf. leaf) state.row) (telling_in row) leaf
      ≡ told_items_from (slice_get (states_in stored) number) (slice_get (tellings_in rows) number) leaf
  told_items_of_state rows number leaf state row there told =
      sym (λ i. told_items_from (map_at state_in stored number state there i) (map_at telling_in rows number row told i) leaf)

  pub advance_of_state : (rows : List ToldRow) (number leaf : ℕ) (state : StoredState) (row : ToldRow) → slice_get stored number ≡ Some state
      → slice_get rows number ≡ Some row
      → advance_to (row_in (λ leaf. leaf) state.row) (telling_in row) leaf
      ≡ advance_from (slice_get (states_in stored) number) (slice_get (tellings_in rows) number) leaf
  advance_of_state rows number leaf state row there told =
      sym (λ i. advance_from (map_at state_in stored number state there i) (map_at telling_in rows number row told i) leaf)

  pub origins_of_state : (of_items : Bool) (rows : List ToldRow) (number leaf : ℕ) (state : StoredState) (row : ToldRow) → slice_get stored number ≡ Some state
      → slice_get rows number ≡ Some row
      → origins_to of_items (row_in (λ leaf. leaf) state.row) (telling_in row) leaf
      ≡ origins_from of_items (slice_get (states_in stored) number) (slice_get (tellings_in rows) number) leaf
  origins_of_state of_items rows number leaf state row there told =
      sym (λ i. origins_from of_items (map_at state_in stored number state there i) (map_at telling_in rows number row told i) leaf)

  -- and where it leads
  pub leads_of_state : (number leaf : ℕ) (state : StoredState) → slice_get stored number ≡ Some state
      → next_of (states_in stored) (record { state = number; leaf = leaf }) ≡ successor_of (leaf_to (row_in (λ leaf. leaf) state.row) leaf)
  leads_of_state number leaf state there = ap (λ (o : Option AutomatonState). successor_from o leaf) (map_at state_in stored number state there)

  -- and what it passes
  pub passed_of_state : (number leaf parameter : ℕ) (state : StoredState) → slice_get stored number ≡ Some state
      → passed_by (states_in stored) (leaf_to (row_in (λ leaf. leaf) state.row) leaf) parameter
      ≡ passed_from (states_in stored) (slice_get (states_in stored) number) leaf parameter
  passed_of_state number leaf parameter state there =
      sym (ap (λ (o : Option AutomatonState). passed_from (states_in stored) o leaf parameter) (map_at state_in stored number state there))

-- where no row is told there is no origin
none_told : (rows : List ToldRow) (number : ℕ) → slice_get rows number ≡ None → slice_get (tellings_in rows) number ≡ None
none_told [] number e = refl
none_told (row ∷ rows) zero e = absurd (cc)
none_told (row ∷ rows) (suc number) e = none_told rows number e

pub no_origins : (of_items : Bool) (rows : List ToldRow) (number leaf : ℕ) (state : Option AutomatonState) → slice_get rows number ≡ None
    → origins_from of_items state (slice_get (tellings_in rows) number) leaf ≡ []
no_origins of_items rows number leaf state none = ap (λ (telling : Option Telling). origins_from of_items state telling leaf) (none_told rows number none) ∙ of_none state
  where
    of_none : (state : Option AutomatonState) → origins_from of_items state None leaf ≡ []
    of_none (Some state) = refl
    of_none None = refl

pub no_told_items : (rows : List ToldRow) (number leaf : ℕ) (state : Option AutomatonState) → slice_get rows number ≡ None
    → told_items_from state (slice_get (tellings_in rows) number) leaf ≡ []
no_told_items rows number leaf state none = ap (λ (telling : Option Telling). told_items_from state telling leaf) (none_told rows number none) ∙ of_none state
  where
    of_none : (state : Option AutomatonState) → told_items_from state None leaf ≡ []
    of_none (Some state) = refl
    of_none None = refl

pub no_advance : (rows : List ToldRow) (number leaf : ℕ) (state : Option AutomatonState) → slice_get rows number ≡ None
    → advance_from state (slice_get (tellings_in rows) number) leaf ≡ None
no_advance rows number leaf state none = ap (λ (telling : Option Telling). advance_from state telling leaf) (none_told rows number none) ∙ of_none state
  where
    of_none : (state : Option AutomatonState) → advance_from state None leaf ≡ None
    of_none (Some state) = refl
    of_none None = refl

-- ---- transition by transition

module _ {X : Type 0} (all : List Transition → List X) (one : Transition → List X)
    (both : (first : Transition) (others : List Transition) → all (first ∷ others) ≡ one first ++ all others) where
  next_along : (way : List Transition) (at : ℕ) (d : Transition) (done : List X) → at < length way → done ++ all (drop at way) ≡ all way
      → (done ++ one (get_or way at d)) ++ all (drop (at + 1) way) ≡ all way
  next_along way at d done below so_far =
      append_assoc done (one (get_or way at d)) (all (drop (at + 1) way))
      ∙ ap (λ (rest : List X). done ++ rest) (sym (both (get_or way at d) (drop (at + 1) way)) ∙ sym (ap all (drop_more way at d below)))
      ∙ so_far

module _ (stored : List StoredState) (way : List Transition) (at : ℕ) (d : Transition) (below : at < length way) (state : StoredState)
    (there : slice_get stored (get_or way at d).state ≡ Some state) where
  pub next_items : (items new : List Item) → new ≡ items ++ items_to (row_in (λ leaf. leaf) state.row) (get_or way at d).leaf
      → items ++ items_along (states_in stored) (drop at way) ≡ items_along (states_in stored) way
      → new ++ items_along (states_in stored) (drop (at + 1) way) ≡ items_along (states_in stored) way
  next_items items new is so_far =
      ap (λ (l : List Item). l ++ items_along (states_in stored) (drop (at + 1) way))
      (is ∙ ap (λ (l : List Item). items ++ l) (items_of_state stored (get_or way at d).state (get_or way at d).leaf state there))
      ∙ next_along (items_along (states_in stored)) (λ t. items_from (slice_get (states_in stored) t.state) t.leaf) (λ first others. refl) way at d items below so_far

  pub next_tests : (tests new : List Operand) → new ≡ tests ++ tests_to (row_in (λ leaf. leaf) state.row) (get_or way at d).leaf
      → tests ++ tests_along (states_in stored) (drop at way) ≡ tests_along (states_in stored) way
      → new ++ tests_along (states_in stored) (drop (at + 1) way) ≡ tests_along (states_in stored) way
  next_tests tests new is so_far =
      ap (λ (l : List Operand). l ++ tests_along (states_in stored) (drop (at + 1) way))
      (is ∙ ap (λ (l : List Operand). tests ++ l) (tests_of_state stored (get_or way at d).state (get_or way at d).leaf state there))
      ∙ next_along (tests_along (states_in stored)) (λ t. tests_from (slice_get (states_in stored) t.state) t.leaf) (λ first others. refl) way at d tests below so_far

  pub next_taken : (taken new : List Operand) → new ≡ taken ++ taken_to (row_in (λ leaf. leaf) state.row) (get_or way at d).leaf
      → taken ++ taken_along (states_in stored) (drop at way) ≡ taken_along (states_in stored) way
      → new ++ taken_along (states_in stored) (drop (at + 1) way) ≡ taken_along (states_in stored) way
  next_taken taken new is so_far =
      ap (λ (l : List Operand). l ++ taken_along (states_in stored) (drop (at + 1) way))
      (is ∙ ap (λ (l : List Operand). taken ++ l) (taken_of_state stored (get_or way at d).state (get_or way at d).leaf state there))
      ∙ next_along (taken_along (states_in stored)) (λ t. taken_from (slice_get (states_in stored) t.state) t.leaf) (λ first others. refl) way at d taken below so_far

-- the origins of one transition more
pub next_origins : (of_items : Bool) (states : List AutomatonState) (tellings : List Telling) (way : List Transition) (at : ℕ) (d : Transition) → at < length way → (origins new : List ℕ)
    → new ≡ origins ++ origins_from of_items (slice_get states (get_or way at d).state) (slice_get tellings (get_or way at d).state) (get_or way at d).leaf
    → origins ++ origins_along of_items states tellings (drop at way) ≡ origins_along of_items states tellings way
    → new ++ origins_along of_items states tellings (drop (at + 1) way) ≡ origins_along of_items states tellings way
next_origins of_items states tellings way at d below origins new is so_far =
    ap (λ (l : List ℕ). l ++ origins_along of_items states tellings (drop (at + 1) way)) is
    ∙ next_along (origins_along of_items states tellings) (λ t. origins_from of_items (slice_get states t.state) (slice_get tellings t.state) t.leaf) (λ first others. refl) way at d
    origins below so_far
