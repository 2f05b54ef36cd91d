-- The path of a walk, and the cycle that it closes.
use Rattle.std.proofs.Common.{◌≡◌, ℕ, suc, ◌≤◌, Bool, true, false, ◌||◌, List, [], ◌∷◌, ◌++◌, length, map, refl, sym, ap, subst, arith}
use Rattle.std.specs.Prelude.{nat_eq, if◌then◌else◌}
use Rattle.std.specs.List.{AllByRecursion, IsDistinct}
use Rattle.std.proofs.lemmas.List.{map-append}
use Rattle.pc_word.proofs.Lists.{all_imply, all_both}
use Rattle.pc_word.proofs.Places.{length_more, same_number, number_apart, own_number}
use Rattle.pc_word.proofs.Truth.{or_second}
use Rattle.pc_automaton.specs.Automaton.{AutomatonState}
use Rattle.pc_cycles.specs.declared.path.Path.{Path}
use Rattle.pc_cycles.specs.declared.path.Path.TheVariants.{Start, After'}
use Rattle.pc_cycles.specs.declared.transition.Transition.{Transition}
use Rattle.pc_cycles.specs.Transitions.{Leads, by_none, by_first}
use Rattle.pc_cycles.specs.models.Circles.{IsCircle}
use Rattle.pc_cycles.specs.models.Paths.{is_on, since, path_length, ComesTo, AreFromOthers}
use Rattle.pc_cycles.proofs.Ways.{leads_last}

-- what comes to a state leads there from each state on the path
since_leads : (states : List AutomatonState) (path : Path) (state to : ℕ) → ComesTo states path to → is_on path state ≡ true
    → Leads states state (since path state) to
since_leads states Start state to comes on = absurd (cc)
since_leads states (After' transition p before) state to comes on =
    by (nat_eq transition.state state) refl on (since_leads states before state transition.state comes.1)
  where
    by : (b : Bool) → nat_eq transition.state state ≡ b → (b || is_on before state) ≡ true
        → (is_on before state ≡ true → Leads states state (since before state) transition.state)
        → Leads states state (if b then transition ∷ [] else since before state ++ transition ∷ []) to
    by true e on earlier = by_first (same_number transition.state state e) comes.0 by_none
    by false e on earlier = leads_last transition to (earlier on) refl comes.0

-- and takes a transition
since_some : (path : Path) (state : ℕ) → is_on path state ≡ true → 1 ≤ length (since path state)
since_some Start state on = absurd (cc)
since_some (After' transition p before) state on = by (nat_eq transition.state state)
  where
    by : (b : Bool) → 1 ≤ length (if b then transition ∷ [] else since before state ++ transition ∷ [])
    by true = omega arith
    by false = let more = length_more (since before state) transition in omega (arith, more)

-- but no more than the path has
since_few : (path : Path) (state : ℕ) → length (since path state) ≤ path_length path
since_few Start state = omega arith
since_few (After' transition p before) state = by (nat_eq transition.state state) (since_few before state)
  where
    by : (b : Bool) → length (since before state) ≤ path_length before
        → length (if b then transition ∷ [] else since before state ++ transition ∷ []) ≤ suc (path_length before)
    by true few = omega arith
    by false few = let more = length_more (since before state) transition in omega (arith, more, few)

-- ---- no state twice

-- the states from which some transitions are
abbrev states_from : List Transition → List ℕ
states_from transitions = map (λ transition. transition.state) transitions

-- they are on the path
since_on : (path : Path) (state : ℕ) → AllByRecursion (λ other. is_on path other ≡ true) (states_from (since path state))
since_on Start state = tt
since_on (After' transition p before) state = by (nat_eq transition.state state) (since_on before state)
  where
    here : (nat_eq transition.state transition.state || is_on before transition.state) ≡ true
    here = ap (λ b. b || is_on before transition.state) (own_number transition.state)

    by : (b : Bool) → AllByRecursion (λ other. is_on before other ≡ true) (states_from (since before state))
        → AllByRecursion (λ other. (nat_eq transition.state other || is_on before other) ≡ true)
        (states_from (if b then transition ∷ [] else since before state ++ transition ∷ []))
    by true on = (here, tt)
    by false on =
        subst (AllByRecursion (λ other. (nat_eq transition.state other || is_on before other) ≡ true))
        (sym (map-append (λ (t : Transition). t.state) (since before state) (transition ∷ [])))
        (all_both (λ other. (nat_eq transition.state other || is_on before other) ≡ true) (states_from (since before state)) (transition.state ∷ [])
        (all_imply (λ other. is_on before other ≡ true) (λ other. (nat_eq transition.state other || is_on before other) ≡ true) (states_from (since before state))
        (λ other on. or_second (nat_eq transition.state other) (is_on before other) on) on)
        (here, tt))

-- numbers of which no two are equal, and one more
distinct_last : (numbers : List ℕ) (last : ℕ) → IsDistinct nat_eq numbers → AllByRecursion (λ number. nat_eq number last ≡ false) numbers
    → IsDistinct nat_eq (numbers ++ last ∷ [])
unfolding IsDistinct
distinct_last [] last distinct apart = (tt, tt)
distinct_last (first ∷ others) last distinct apart = (
  all_both (λ y. nat_eq first y ≡ false) others (last ∷ []) distinct.0 (apart.0, tt),
  distinct_last others last distinct.1 apart.1,
)

one_distinct : (number : ℕ) → IsDistinct nat_eq (number ∷ [])
unfolding IsDistinct
one_distinct number = (tt, tt)

none_distinct : IsDistinct nat_eq []
unfolding IsDistinct
none_distinct = tt

since_once : (path : Path) (state : ℕ) → AreFromOthers path → IsDistinct nat_eq (states_from (since path state))
since_once Start state others = none_distinct
since_once (After' transition p before) state others = by (nat_eq transition.state state) (since_once before state others.1)
  where
    apart : (other : ℕ) → is_on before other ≡ true → nat_eq other transition.state ≡ false
    apart other on = number_apart other transition.state (λ same. let off = others.0 in let here = ap (is_on before) same in absurd (cc))

    by : (b : Bool) → IsDistinct nat_eq (states_from (since before state))
        → IsDistinct nat_eq (states_from (if b then transition ∷ [] else since before state ++ transition ∷ []))
    by true once = one_distinct transition.state
    by false once =
        subst (IsDistinct nat_eq) (sym (map-append (λ (t : Transition). t.state) (since before state) (transition ∷ [])))
        (distinct_last (states_from (since before state)) transition.state once
        (all_imply (λ other. is_on before other ≡ true) (λ other. nat_eq other transition.state ≡ false) (states_from (since before state)) apart (since_on before state)))

-- ---- the cycle

-- a path that comes back to a state on it is a circle from there on
pub since_is_circle : (states : List AutomatonState) (path : Path) (state : ℕ) → ComesTo states path state → AreFromOthers path → path_length path ≤ length states
    → is_on path state ≡ true → IsCircle states (since path state)
since_is_circle states path state comes others few on = record {
  start = state;
  closed = since_leads states path state state comes on;
  some = since_some path state on;
  once = since_once path state others;
  few = let all = since_few path state in omega (arith, all, few);
}

-- the last of some transitions is the path's
abbrev pub EndsLike : Path → List Transition → Type 0
EndsLike Start transitions = Unit {0}
EndsLike (After' transition p before) transitions = (front : List Transition) × (transitions ≡ front ++ transition ∷ [])

-- so it is of those from a state on
pub since_ends : (path : Path) (state : ℕ) → EndsLike path (since path state)
since_ends Start state = tt
since_ends (After' transition p before) state = by (nat_eq transition.state state)
  where
    by : (b : Bool) → (front : List Transition) × ((if b then transition ∷ [] else since before state ++ transition ∷ []) ≡ front ++ transition ∷ [])
    by true = ([], refl)
    by false = (since before state, refl)
