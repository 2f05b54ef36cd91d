-- Ways from state to state, and what stands on them.
use Rattle.std.proofs.Common.{◌≡◌, ℕ, suc, ◌+◌, ◌-◌, ◌≤◌, ◌<◌, ◌^◌, Bool, true, false, List, [], ◌∷◌, ◌++◌, length, length-append, refl, sym, ◌∙◌, ap, subst, arith}
use Rattle.std.specs.Prelude.{nat_eq, nat_lt, if◌then◌else◌, Option, Some, None, slice_get}
use Rattle.std.specs.List.{AllByRecursion}
use Rattle.std.proofs.lemmas.Bool.Decides.{nat_tests}
use Rattle.std.proofs.lemmas.Option.{slice_get_within}
use Rattle.pc_word.specs.declared.item.Limits.{Limits}
use Rattle.pc_word.specs.declared.item.Operand.{Operand}
use Rattle.pc_word.specs.Row.{Row, Then, Either, At_leaf, tests_of, leaves_of}
use Rattle.pc_word.proofs.Lists.{all_imply}
use Rattle.pc_automaton.specs.declared.automaton.AutomatonLeaf.{AutomatonLeaf}
use Rattle.pc_automaton.specs.declared.automaton.AutomatonLeaf.TheVariants.{To, Out, Stop, Trap}
use Rattle.pc_automaton.specs.Automaton.{AutomatonState}
use Rattle.pc_automaton.specs.RowFits.{RowFits}
use Rattle.pc_told.specs.Resources.{PathIn, to_leaf, past_item, to_yes, to_no, PathThrough, through_none, through_next}
use Rattle.pc_told.specs.Tellings.{Telling, Tells_item, Tells_test, Tells_leaf}
use Rattle.pc_cycles.specs.declared.transition.Transition.{Transition}
use Rattle.pc_cycles.specs.Transitions.{leaf_to, items_to, tests_to, taken_to, origins_to, successor_of, successor_from, next_of, items_from, tests_from, taken_from, origins_from}
use Rattle.pc_cycles.specs.Transitions.{Leads, by_none, by_first, items_along, tests_along, taken_along, origins_along}
use Rattle.pc_cycles.specs.models.Circles.{HaveFewLeaves, AreThere}

-- ---- one row

-- to a leaf there is a path, which meets what stands on the path to its number
pub path_to : {L : Type 0} (row : Row L) (number : ℕ) (leaf : L) → leaf_to row number ≡ Some leaf → PathIn row (items_to row number) (tests_to row number) leaf
path_to (Then item rest) number leaf e = past_item (path_to rest number leaf e)
path_to {L} (Either on on_yes on_no) number leaf e = by (nat_lt number (length (leaves_of on_yes))) e
    (path_to on_yes number leaf) (path_to on_no (number - length (leaves_of on_yes)) leaf)
  where
    by : (b : Bool) → (if b then leaf_to on_yes number else leaf_to on_no (number - length (leaves_of on_yes))) ≡ Some leaf
        → (leaf_to on_yes number ≡ Some leaf → PathIn on_yes (items_to on_yes number) (tests_to on_yes number) leaf)
        → (leaf_to on_no (number - length (leaves_of on_yes)) ≡ Some leaf → PathIn on_no (items_to on_no (number - length (leaves_of on_yes)))
        (tests_to on_no (number - length (leaves_of on_yes))) leaf)
        → PathIn (Either on on_yes on_no)
        (if b then items_to on_yes number else items_to on_no (number - length (leaves_of on_yes)))
        (on ∷ (if b then tests_to on_yes number else tests_to on_no (number - length (leaves_of on_yes)))) leaf
    by true e one other = to_yes (one e)
    by false e one other = to_no (other e)
path_to (At_leaf here) number leaf e = by (nat_eq number 0) e
  where
    by : (b : Bool) → (if b then Some here else None) ≡ Some leaf → PathIn (At_leaf here) [] [] leaf
    by true e = let same : here ≡ leaf = (cc) in subst (λ l. PathIn (At_leaf here) [] [] l) same to_leaf
    by false e = absurd (cc)

-- the leaf with a number is within
pub leaf_within : {L : Type 0} (row : Row L) (number : ℕ) (leaf : L) → leaf_to row number ≡ Some leaf → number < length (leaves_of row)
leaf_within (Then item rest) number leaf e = leaf_within rest number leaf e
leaf_within (Either on on_yes on_no) number leaf e =
    by (nat_lt number (length (leaves_of on_yes))) refl e (leaf_within on_no (number - length (leaves_of on_yes)) leaf)
  where
    by : (b : Bool) → nat_lt number (length (leaves_of on_yes)) ≡ b
        → (if b then leaf_to on_yes number else leaf_to on_no (number - length (leaves_of on_yes))) ≡ Some leaf
        → (leaf_to on_no (number - length (leaves_of on_yes)) ≡ Some leaf → number - length (leaves_of on_yes) < length (leaves_of on_no))
        → number < length (leaves_of on_yes ++ leaves_of on_no)
    by true test e other =
        let both = length-append (leaves_of on_yes) (leaves_of on_no) in
        let lt : number < length (leaves_of on_yes) = grind (arith, nat_tests) in
        omega (arith, both, lt)
    by false test e other =
        let both = length-append (leaves_of on_yes) (leaves_of on_no) in
        let lt = other e in
        let ge : length (leaves_of on_yes) ≤ number = grind (arith, nat_tests) in
        omega (arith, both, lt, ge)
leaf_within (At_leaf here) number leaf e = by (nat_eq number 0) refl e
  where
    by : (b : Bool) → nat_eq number 0 ≡ b → (if b then Some here else None) ≡ Some leaf → number < 1
    by true test e = let zero : number ≡ 0 = grind (arith, nat_tests) in omega (arith, zero)
    by false test e = absurd (cc)

-- a row has one leaf more than tests
leaves_by_tests : {L : Type 0} (row : Row L) → length (leaves_of row) ≡ suc (length (tests_of row))
leaves_by_tests (Then item rest) = leaves_by_tests rest
leaves_by_tests (Either on on_yes on_no) =
    let one = leaves_by_tests on_yes in
    let other = leaves_by_tests on_no in
    let leaves = length-append (leaves_of on_yes) (leaves_of on_no) in
    let tests = length-append (tests_of on_yes) (tests_of on_no) in
    omega (arith, one, other, leaves, tests)
leaves_by_tests (At_leaf leaf) = refl

-- no more origins are told than there are items and tests
pub few_origins : {L : Type 0} (of_items : Bool) (row : Row L) (telling : Telling) (number : ℕ)
    → length (origins_to of_items row telling number) ≤ length (items_to row number) + length (tests_to row number)
few_origins true (Then item rest) (Tells_item iteration origin told below) number = let few = few_origins true rest below number in omega (arith, few)
few_origins false (Then item rest) (Tells_item iteration origin told below) number = let few = few_origins false rest below number in omega (arith, few)
few_origins of_items (Then item rest) (Tells_test iteration origin told one other) number = omega arith
few_origins of_items (Then item rest) (Tells_leaf advance) number = omega arith
few_origins of_items (Either on on_yes on_no) (Tells_item iteration origin told below) number = omega arith
few_origins of_items (Either on on_yes on_no) (Tells_leaf advance) number = omega arith
few_origins of_items (Either on on_yes on_no) (Tells_test iteration origin told one other) number =
    by (nat_lt number (length (leaves_of on_yes))) (few_origins of_items on_yes one number) (few_origins of_items on_no other (number - length (leaves_of on_yes)))
  where
    by : (b : Bool)
        → length (origins_to of_items on_yes one number) ≤ length (items_to on_yes number) + length (tests_to on_yes number)
        → length (origins_to of_items on_no other (number - length (leaves_of on_yes)))
        ≤ length (items_to on_no (number - length (leaves_of on_yes))) + length (tests_to on_no (number - length (leaves_of on_yes)))
        → suc (length (if b then origins_to of_items on_yes one number else origins_to of_items on_no other (number - length (leaves_of on_yes))))
        ≤ length (if b then items_to on_yes number else items_to on_no (number - length (leaves_of on_yes)))
        + suc (length (if b then tests_to on_yes number else tests_to on_no (number - length (leaves_of on_yes))))
    by true one other = omega (arith, one)
    by false one other = omega (arith, other)
few_origins of_items (At_leaf leaf) telling number = omega arith

-- ---- a transition

-- what a transition leads to is led to by a leaf of a state that is there
pub record LeadsBy (states : List AutomatonState) (transition : Transition) (to : ℕ) : Type 0 where
  pub state : AutomatonState
  pub arguments : List Operand
  pub there : slice_get states transition.state ≡ Some state
  pub leaf : leaf_to state.row transition.leaf ≡ Some (To to arguments)

pub led_by : (states : List AutomatonState) (transition : Transition) (to : ℕ) → next_of states transition ≡ Some to → LeadsBy states transition to
led_by states transition to e = by (slice_get states transition.state) refl e
  where
    by_leaf : (state : AutomatonState) → slice_get states transition.state ≡ Some state → (leaf : Option AutomatonLeaf)
        → leaf_to state.row transition.leaf ≡ leaf → successor_of leaf ≡ Some to → LeadsBy states transition to
    by_leaf state there (Some (To number arguments)) leaf e =
        let same : number ≡ to = (cc) in
        record { state = state; arguments = arguments; there = there; leaf = leaf ∙ ap (λ n. Some (To n arguments)) same }
    by_leaf state there (Some (Out region homes)) leaf e = absurd (cc)
    by_leaf state there (Some Stop) leaf e = absurd (cc)
    by_leaf state there (Some (Trap kind line)) leaf e = absurd (cc)
    by_leaf state there None leaf e = absurd (cc)

    by : (found : Option AutomatonState) → slice_get states transition.state ≡ found → successor_from found transition.leaf ≡ Some to → LeadsBy states transition to
    by (Some state) there e = by_leaf state there (leaf_to state.row transition.leaf) refl e
    by None there e = absurd (cc)

-- ---- a way

-- a way is a path, which meets what stands on the way
pub way_is_path : {states : List AutomatonState} {from to : ℕ} {way : List Transition} → Leads states from way to
    → PathThrough states from (length way) (items_along states way) (tests_along states way)
way_is_path by_none = through_none
way_is_path {states} (by_first {from} {next} {to} {first} {others} is leads further) =
    let by = led_by states first next leads in
    let here : slice_get states from ≡ Some by.state = ap (slice_get states) (sym is) ∙ by.there in
    rw (by.there) (through_next here (path_to by.state.row first.leaf (To next by.arguments) by.leaf) (way_is_path further))

-- each transition of a way is there
pub way_is_there : {states : List AutomatonState} {from to : ℕ} {way : List Transition} → Leads states from way to → AreThere states way
way_is_there by_none = tt
way_is_there {states} (by_first {from} {next} {to} {first} {others} is leads further) =
    let by = led_by states first next leads in (slice_get_within states first.state by.state by.there, way_is_there further)

-- a way with a transition more
pub leads_last : {states : List AutomatonState} {from mid : ℕ} {way : List Transition} (last : Transition) (to : ℕ) → Leads states from way mid
    → last.state ≡ mid → next_of states last ≡ Some to → Leads states from (way ++ last ∷ []) to
leads_last last to by_none is leads = by_first is leads by_none
leads_last last to (by_first first_is first_leads further) is leads = by_first first_is first_leads (leads_last last to further is leads)

-- no more origins are told on a way than there are items and tests
pub few_origins_along : (of_items : Bool) (states : List AutomatonState) (tellings : List Telling) (way : List Transition)
    → length (origins_along of_items states tellings way) ≤ length (items_along states way) + length (tests_along states way)
few_origins_along of_items states tellings [] = omega arith
few_origins_along of_items states tellings (first ∷ others) =
    let rest = few_origins_along of_items states tellings others in
    let here = one (slice_get states first.state) (slice_get tellings first.state) first.leaf in
    let origins = length-append (origins_from of_items (slice_get states first.state) (slice_get tellings first.state) first.leaf) (origins_along of_items states tellings others) in
    let items = length-append (items_from (slice_get states first.state) first.leaf) (items_along states others) in
    let tests = length-append (tests_from (slice_get states first.state) first.leaf) (tests_along states others) in
    omega (arith, rest, here, origins, items, tests)
  where
    one : (state : Option AutomatonState) (telling : Option Telling) (leaf : ℕ)
        → length (origins_from of_items state telling leaf) ≤ length (items_from state leaf) + length (tests_from state leaf)
    one (Some state) (Some telling) leaf = few_origins of_items state.row telling leaf
    one (Some state) None leaf = omega arith
    one None telling leaf = omega arith

-- no more tests are taken than there are
few_taken_to : {L : Type 0} (row : Row L) (leaf : ℕ) → length (taken_to row leaf) ≤ length (tests_to row leaf)
few_taken_to (Then item rest) leaf = few_taken_to rest leaf
few_taken_to (Either on on_yes on_no) leaf =
    by (nat_lt leaf (length (leaves_of on_yes))) (few_taken_to on_yes leaf) (few_taken_to on_no (leaf - length (leaves_of on_yes)))
  where
    by : (b : Bool) → length (taken_to on_yes leaf) ≤ length (tests_to on_yes leaf)
        → length (taken_to on_no (leaf - length (leaves_of on_yes))) ≤ length (tests_to on_no (leaf - length (leaves_of on_yes)))
        → length (if b then on ∷ taken_to on_yes leaf else taken_to on_no (leaf - length (leaves_of on_yes)))
        ≤ length (on ∷ (if b then tests_to on_yes leaf else tests_to on_no (leaf - length (leaves_of on_yes))))
    by true one other = omega (arith, one)
    by false one other = omega (arith, other)
few_taken_to (At_leaf here) leaf = omega arith

pub few_taken_along : (states : List AutomatonState) (way : List Transition) → length (taken_along states way) ≤ length (tests_along states way)
few_taken_along states [] = omega arith
few_taken_along states (first ∷ others) =
    let rest = few_taken_along states others in
    let here = one (slice_get states first.state) first.leaf in
    let taken = length-append (taken_from (slice_get states first.state) first.leaf) (taken_along states others) in
    let tests = length-append (tests_from (slice_get states first.state) first.leaf) (tests_along states others) in
    omega (arith, rest, here, taken, tests)
  where
    one : (state : Option AutomatonState) (leaf : ℕ) → length (taken_from state leaf) ≤ length (tests_from state leaf)
    one (Some state) leaf = few_taken_to state.row leaf
    one None leaf = omega arith

-- rows within limits have few leaves
pub few_leaves : (limits : Limits) (states : List AutomatonState) → limits.tests < 2 ^ 31 → AllByRecursion (λ state. RowFits limits state.row) states → HaveFewLeaves states
few_leaves limits states few fits =
    all_imply (λ (state : AutomatonState). RowFits limits state.row) (λ (state : AutomatonState). length (leaves_of state.row) < 2 ^ 32) states
    (λ state row_fits. let tests = row_fits.tests in let leaves = leaves_by_tests state.row in omega (arith, few, tests, leaves)) fits
