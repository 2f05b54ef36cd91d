-- States that get registers, one after the other.
use Rattle.std.proofs.Common.{◌≡◌, ℕ, zero, suc, ◌+◌, ◌<◌, ◌≤◌, inl, inr, Bool, true, false, List, [], ◌∷◌, ◌++◌, length, take, Option, Some}
use Rattle.std.proofs.Common.{None, refl, sym, ◌∙◌, ap, subst, arith, unwrap_or}
use Rattle.std.specs.Prelude.{nat_eq, slice_get, if◌then◌else◌, Result, Ok, Err, MatchResult, IfOk}
use Rattle.std.specs.Option.{option_or}
use Rattle.std.specs.List.{IsDistinct, cons_option}
use Rattle.std.proofs.lemmas.List.{length-map}
use Rattle.std.proofs.lemmas.List.Elements.{filter_map-append}
use Rattle.pc_word.specs.Row.{Row, Then, Either, At_leaf, items_of}
use Rattle.pc_word.specs.Items.{dest_of}
use Rattle.pc_word.proofs.Truth.{decide_le}
use Rattle.pc_word.proofs.Lists.{all_at}
use Rattle.pc_automaton.specs.declared.automaton.AutomatonLeaf.{AutomatonLeaf}
use Rattle.pc_automaton.specs.declared.automaton.AutomatonState.{AutomatonState as StoredState}
use Rattle.pc_automaton.specs.Automaton.{AutomatonState, state_in, states_in, names_written, IsStateAmong, IsAutomaton}
use Rattle.pc_assign.specs.Pressure.{few_scratch, most_scratch, definitions_with, IsLow, LowBefore, IsFirstAbove, Last_of_few, Last_of_most}
use Rattle.pc_assign.specs.Assigned.{state_names, row_passes, states_pass, passed_to, StateByRule, AreByRule, IsAssigned}
use Rattle.pc_assign.specs.Stored.{beside, register_in, registers_in, Refuses}
use Rattle.pc_assign.specs.declared.assigned.Assigned.{Assigned}
use Rattle.pc_assign.specs.declared.error.AssignError.{AssignError}
use Rattle.pc_assign.specs.declared.error.AssignError.TheVariants.{Pressure, Memory}
use Rattle.pc_assign.specs.declared.assigned.StateRegisters.{StateRegisters}
use Rattle.pc_assign.specs.models.Choosing.{AreMost, PassedMost, AreHeld, AreChosen, definitions_in}
use Rattle.pc_assign.specs.models.Passing.{noted_in, noted, Notes}
use Rattle.pc_assign.specs.models.Assigning.{IsGiven, RefusesState, RefusesStates, registers_of, AreGiven}
use Rattle.pc_assign.proofs.PassedOn.{row_passed, either_passed}
use Rattle.pc_assign.proofs.ByRule.{length_both, state_by_rule, chosen_most}

-- ---- lists

get_front : {X : Type 0} (xs : List X) (y x : X) (at : ℕ) → slice_get xs at ≡ Some x → slice_get (xs ++ y ∷ []) at ≡ Some x
get_front [] y x at e = absurd (cc)
get_front (z ∷ xs) y x zero e = e
get_front (z ∷ xs) y x (suc at) e = get_front xs y x at e

get_last : {X : Type 0} (xs : List X) (y : X) → slice_get (xs ++ y ∷ []) (length xs) ≡ Some y
get_last [] y = refl
get_last (x ∷ xs) y = get_last xs y

one_longer : {X : Type 0} (xs : List X) (y : X) → length (xs ++ y ∷ []) ≡ suc (length xs)
one_longer [] y = refl
one_longer (x ∷ xs) y = ap suc (one_longer xs y)

inside : {X : Type 0} (xs : List X) (at : ℕ) (x : X) → slice_get xs at ≡ Some x → at < length xs
inside [] at x e = absurd (cc)
inside (y ∷ xs) zero x e = omega arith
inside (y ∷ xs) (suc at) x e = omega (arith, inside xs at x e)

outside : {X : Type 0} (xs : List X) (at : ℕ) → length xs ≤ at → slice_get xs at ≡ None
outside [] at h = refl
outside (x ∷ xs) zero h = absurd (omega arith)
outside (x ∷ xs) (suc at) h = outside xs at (omega arith)

take_one : {X : Type 0} (xs : List X) (at : ℕ) (x : X) → slice_get xs at ≡ Some x → take (suc at) xs ≡ take at xs ++ x ∷ []
take_one [] at x e = absurd (cc)
take_one (y ∷ xs) zero x e = let same : y ≡ x = (cc) in ap (λ z. z ∷ []) same
take_one (y ∷ xs) (suc at) x e = ap (λ zs. y ∷ zs) (take_one xs at x e)

take_length : {X : Type 0} (xs : List X) (at : ℕ) → at < length xs → length (take at xs) ≡ at
take_length xs zero h = refl
take_length [] (suc at) h = absurd (omega arith)
take_length (x ∷ xs) (suc at) h = ap suc (take_length xs at (omega arith))

-- ---- tables

-- a table in which nothing is noted, with one place more
pub none_pushed : (table : List (Option (List (Option ℕ)))) → ((to : ℕ) → noted table to ≡ None) → (to : ℕ) → noted (table ++ None ∷ []) to ≡ None
none_pushed [] h zero = refl
none_pushed [] h (suc to) = refl
none_pushed (x ∷ table) h zero = h 0
none_pushed (x ∷ table) h (suc to) = none_pushed table (λ at. h (suc at)) to

pub table_longer : (table : List (Option (List (Option ℕ)))) → length (table ++ None ∷ []) ≡ suc (length table)
table_longer table = one_longer table None

pub ruleset tables = (none_pushed, table_longer)

-- ---- what is passed

or_none : {X : Type 0} (o : Option X) → option_or o None ≡ o
or_none None = refl
or_none (Some x) = refl

or_joined : {X : Type 0} (o p q : Option X) → option_or o (option_or p q) ≡ option_or (option_or o p) q
or_joined None p q = refl
or_joined (Some x) p q = refl

states_pass_more : (R : ℕ → ℕ → Option ℕ) (to from : ℕ) (xs : List AutomatonState) (x : AutomatonState)
    → states_pass R to from (xs ++ x ∷ []) ≡ option_or (states_pass R to from xs) (row_passes (R (from + length xs)) to x.row)
states_pass_more R to from [] x =
    let here : from ≡ from + 0 = omega arith in
    or_none (row_passes (R from) to x.row) ∙ ap (λ (n : ℕ). row_passes (R n) to x.row) here
states_pass_more R to from (y ∷ xs) x =
    let here : suc from + length xs ≡ from + suc (length xs) = omega arith in
    ap (option_or (row_passes (R from) to y.row))
    (states_pass_more R to (suc from) xs x ∙ ap (λ (n : ℕ). option_or (states_pass R to (suc from) xs) (row_passes (R n) to x.row)) here)
    ∙ or_joined (row_passes (R from) to y.row) (states_pass R to (suc from) xs) (row_passes (R (from + suc (length xs))) to x.row)

beside_most : (scratch : ℕ) (names registers : List ℕ) → AreMost scratch registers → (name r : ℕ) → beside names registers name ≡ Some r → r ≤ scratch
beside_most scratch [] registers most name r e = absurd (cc)
beside_most scratch (x ∷ names) [] most name r e = absurd (cc)
beside_most scratch (x ∷ names) (s ∷ registers) most name r e = by (nat_eq name x) (most 0 s refl)
    (beside_most scratch names registers (λ at q h. most (suc at) q h) name r) e
  where
    by : (b : Bool) → s ≤ scratch → (beside names registers name ≡ Some r → r ≤ scratch)
        → (if b then Some s else beside names registers name) ≡ Some r → r ≤ scratch
    by true few later e = let same : s ≡ r = (cc) in subst (λ (q : ℕ). q ≤ scratch) same few
    by false few later e = later e

-- ---- states

-- none, to begin with
pub none_given : (scratch : ℕ) (states : List AutomatonState) (table : List (Option (List (Option ℕ)))) → length table ≡ length states
    → ((to : ℕ) → noted table to ≡ None)
    → AreGiven scratch states 0 [] table
none_given scratch states table as_many none = record {
  count = refl;
  low = λ at state h e. absurd (omega arith);
  as_many = as_many;
  rule = λ whole begins at state h e. absurd (omega arith);
  notes = λ whole begins to h. none to;
  most = λ to passed e. let no = none to in absurd (cc);
}

-- one more
pub one_more_given : (scratch : ℕ) (states : List AutomatonState) (number : ℕ) (state : AutomatonState) (given : List StateRegisters) (one : StateRegisters)
    (table later : List (Option (List (Option ℕ)))) (passed : List (Option ℕ)) → AreGiven scratch states number given table
    → slice_get states number ≡ Some state
    → passed ≡ unwrap_or (noted table number) [] → IsGiven scratch number passed state one → Notes (beside one.names.keys one.registers) state.row table later
    → AreGiven scratch states (suc number) (given ++ one ∷ []) later
one_more_given scratch states number state given one table later passed h here is_passed is notes = record {
  count = one_longer given one ∙ ap suc h.count;
  low = λ at other less e. elim (decide_le number at) [
    | inl last ↦
        let same : at ≡ number = omega arith in
        let it : slice_get states number ≡ Some other = ap (slice_get states) (sym same) ∙ e in
        let alike : state ≡ other = (cc) in subst (λ (s : AutomatonState). IsLow scratch s) alike is.low
    | inr before ↦ h.low at other before e
  ];
  as_many = notes.as_many ∙ h.as_many;
  rule = λ whole begins at other less e. elim (decide_le number at) [
    | inl last ↦
        let same : at ≡ number = omega arith in
        let it : slice_get states number ≡ Some other = ap (slice_get states) (sym same) ∙ e in
        let alike : state ≡ other = (cc) in
        let found : slice_get whole number ≡ Some one = begins number one (ap (slice_get (given ++ one ∷ [])) (sym h.count) ∙ get_last given one) in
        let list : passed_to states (registers_of whole) number ≡ passed =
        ap (λ (o : Option (List (Option ℕ))). unwrap_or o [])
        (sym (h.notes whole (λ k x q. begins k x (get_front given one x k q)) number (inside states number state here))) ∙ sym is_passed in
        subst (λ (n : ℕ). StateByRule scratch n (passed_to states (registers_of whole) n) (registers_of whole n) other) (sym same)
        (subst (λ (s : AutomatonState). StateByRule scratch number (passed_to states (registers_of whole) number) (registers_of whole number) s) alike
        (subst (λ (found : Option StateRegisters). StateByRule scratch number (passed_to states (registers_of whole) number) (register_in found) state)
        (sym found)
        (subst (λ (xs : List (Option ℕ)). StateByRule scratch number xs (beside one.names.keys one.registers) state) (sym list) is.rule)))
    | inr before ↦ h.rule whole (λ k x q. begins k x (get_front given one x k q)) at other before e
  ];
  notes = λ whole begins to less.
      let found : slice_get whole number ≡ Some one = begins number one (ap (slice_get (given ++ one ∷ [])) (sym h.count) ∙ get_last given one) in
      let long : length (take number states) ≡ number = take_length states number (inside states number state here) in
      let place : 0 + length (take number states) ≡ number = omega (arith, long) in
      notes.each to (omega (arith, h.as_many))
      ∙ ap (λ (o : Option (List (Option ℕ))). option_or o (row_passes (beside one.names.keys one.registers) to state.row))
      (h.notes whole (λ k x q. begins k x (get_front given one x k q)) to less)
      ∙ ap (λ (o : Option StateRegisters). option_or (states_pass (registers_of whole) to 0 (take number states))
      (row_passes (register_in o) to state.row)) (sym found)
      ∙ ap (λ (n : ℕ). option_or (states_pass (registers_of whole) to 0 (take number states)) (row_passes (registers_of whole n) to state.row))
      (sym place)
      ∙ sym (states_pass_more (registers_of whole) to 0 (take number states) state)
      ∙ ap (states_pass (registers_of whole) to 0) (sym (take_one states number state here));
  most = λ to list e. elim (decide_le (length table) to) [
    | inl out ↦ let none : slice_get later to ≡ None = outside later to (omega (arith, notes.as_many)) in let nothing = ap noted_in none in absurd
        (cc)
    | inr there ↦
        either_passed (λ r. r ≤ scratch) (noted table to) (row_passes (beside one.names.keys one.registers) to state.row) list (h.most to)
        (row_passed (λ r. r ≤ scratch) (beside one.names.keys one.registers) (beside_most scratch one.names.keys one.registers is.most) to state.row)
        (sym (notes.each to there) ∙ e)
  ];
}

-- all
pub all_given : (scratch : ℕ) (states : List AutomatonState) (number : ℕ) (given : List StateRegisters) (table : List (Option (List (Option ℕ))))
    → number ≡ length states → AreGiven scratch states number given table → LowBefore scratch states (length states) × AreByRule scratch states (registers_of given)
all_given scratch states number given table whole h = (
  subst (λ (n : ℕ). LowBefore scratch states n) whole h.low,
  record {
    each = λ at state e. h.rule given (λ k x q. q) at state (omega (arith, inside states at state e)) e;
    none = λ at name past. ap (λ (o : Option StateRegisters). register_in o name) (outside given at (omega (arith, h.count)));
  },
)

-- one that is refused
pub refused : (scratch : ℕ) (states : List AutomatonState) (number : ℕ) (state : AutomatonState) (given : List StateRegisters)
    (table : List (Option (List (Option ℕ)))) (why : AssignError)
    → AreGiven scratch states number given table → slice_get states number ≡ Some state → RefusesState scratch number state why → RefusesStates scratch states why
refused scratch states number state given table (Pressure at live) h here high = record {
  state = state;
  there = ap (slice_get states) high.0 ∙ here;
  is_live = high.1;
  high = high.2;
  before = subst (λ (n : ℕ). LowBefore scratch states n) (sym high.0) h.low;
}
refused scratch states number state given table Memory h here high = tt

-- ---- what a state requires

pub stored_at : (states : List StoredState) (number : ℕ) (state : StoredState) → slice_get states number ≡ Some state
    → slice_get (states_in states) number ≡ Some (state_in state)
stored_at [] number state e = absurd (cc)
stored_at (s ∷ states) zero state e = let same : s ≡ state = (cc) in ap (λ (it : StoredState). Some (state_in it)) same
stored_at (s ∷ states) (suc number) state e = stored_at states number state e

pub stands_once : (states : List AutomatonState) (number : ℕ) (state : AutomatonState) → IsAutomaton states → slice_get states number ≡ Some state
    → IsDistinct nat_eq (state_names state)
stands_once states number state kept here = (all_at (IsStateAmong states) states number state kept.each here).once

pub noted_most : (scratch : ℕ) (states : List AutomatonState) (number to : ℕ) (given : List StateRegisters) (table : List (Option (List (Option ℕ))))
    (passed : List (Option ℕ))
    → AreGiven scratch states number given table → passed ≡ unwrap_or (noted table to) [] → PassedMost scratch passed
noted_most scratch states number to given table passed h is = subst (λ (xs : List (Option ℕ)). PassedMost scratch xs) (sym is) (by (noted table to) (h.most to))
  where
    by : (o : Option (List (Option ℕ))) → ((xs : List (Option ℕ)) → o ≡ Some xs → PassedMost scratch xs) → PassedMost scratch (unwrap_or o [])
    by (Some xs) k = k xs refl
    by None k = λ at r e. absurd (cc)

written_count : (row : Row AutomatonLeaf) → length (names_written row) ≡ definitions_in row
written_count (Then item rest) = by (dest_of item) (names_written rest) (definitions_in rest) (written_count rest)
  where
    by : (found : Option ℕ) (xs : List ℕ) (n : ℕ) → length xs ≡ n → length (cons_option found xs) ≡ definitions_with found n
    by (Some dest) xs n e = ap suc e
    by None xs n e = e
written_count (Either on on_yes on_no) =
    ap length (filter_map-append dest_of (items_of on_yes) (items_of on_no)) ∙ length_both (names_written on_yes) (names_written on_no)
    ∙ (λ i. written_count on_yes i + written_count on_no i)
written_count (At_leaf leaf) = refl

-- a state's names are what its row defines and its parameters
pub names_counted : (state : AutomatonState) (keys : List ℕ) (count : ℕ) → keys ≡ state_names state → count ≡ length keys
    → definitions_in state.row + length state.parameters ≡ count
names_counted state keys count are is =
    let long : length keys ≡ length (state_names state) = ap length are in
    omega (arith, long, length_both state.parameters (names_written state.row), written_count state.row, is)

-- a state whose parts have registers has them
pub given_is : (scratch number : ℕ) (passed : List (Option ℕ)) (state : AutomatonState) (one : StateRegisters) (parameters held front : List ℕ)
    → one.names.keys ≡ state_names state
    → IsDistinct nat_eq (state_names state) → IsLow scratch state → parameters ≡ state.parameters → front ≡ held → length held ≡ length parameters → AreMost scratch held
    → AreHeld scratch number passed parameters held → AreChosen scratch parameters front (λ q. false) state.row front one.registers → IsGiven scratch number passed state one
given_is scratch number passed state one parameters held front are distinct low same_parameters same_held as_many most is chosen =
    let by_state = subst (λ (ps : List ℕ). AreChosen scratch ps front (λ q. false) state.row front one.registers) same_parameters chosen in
    let whole = subst (λ (hs : List ℕ). AreChosen scratch state.parameters hs (λ q. false) state.row hs one.registers) same_held by_state in
    record {
      low = low;
      rule = state_by_rule scratch number passed state one.names.keys held one.registers are distinct low (as_many ∙ ap length same_parameters)
          (subst (λ (ps : List ℕ). AreHeld scratch number passed ps held) same_parameters is) whole;
      most = chosen_most scratch state.parameters held (λ q. false) state.row held one.registers most whole;
    }

pub all_stored : (scratch : ℕ) (states : List StoredState) (number : ℕ) (given : List StateRegisters) (table : List (Option (List (Option ℕ))))
    → number ≡ length states → AreGiven scratch (states_in states) number given table → LowBefore scratch (states_in states) (length states) × AreByRule scratch (states_in states)
    (registers_of given)
all_stored scratch states number given table whole h =
    let many : length (states_in states) ≡ length states = length-map states state_in in
    let both = all_given scratch (states_in states) number given table (whole ∙ sym many) h in
    (subst (λ (n : ℕ). LowBefore scratch (states_in states) n) many both.0, both.1)

-- ---- few registers, or the most

below_more : (states : List AutomatonState) (number : ℕ) → LowBefore few_scratch states number → LowBefore most_scratch states number
below_more states number low at state less here = let few = low at state less here in omega (arith, few)

-- where few are enough
pub assigned_few : (states : List StoredState) (assigned : Assigned) → assigned.scratch ≡ few_scratch
    → LowBefore few_scratch (states_in states) (length states) × AreByRule few_scratch (states_in states) (registers_of assigned.states)
    → LowBefore most_scratch (states_in states) (length states) × IsAssigned (states_in states) (registers_in assigned)
assigned_few states assigned is both = (
  below_more (states_in states) (length states) both.0,
  record {
    left = Last_of_few is (subst (λ (n : ℕ). LowBefore few_scratch (states_in states) n) (sym (length-map states state_in)) both.0);
    rule = subst (λ (scratch : ℕ). AreByRule scratch (states_in states) (registers_of assigned.states)) (sym is) both.1;
  },
)

-- where they are not, but the most are
pub assigned_most : (states : List StoredState) (assigned : Assigned) (number live : ℕ) → IsFirstAbove few_scratch (states_in states) number live
    → assigned.scratch ≡ most_scratch
    → LowBefore most_scratch (states_in states) (length states) × AreByRule most_scratch (states_in states) (registers_of assigned.states)
    → LowBefore most_scratch (states_in states) (length states) × IsAssigned (states_in states) (registers_in assigned)
assigned_most states assigned number live first is both = (
  both.0,
  record {
    left = Last_of_most is first;
    rule = subst (λ (scratch : ℕ). AreByRule scratch (states_in states) (registers_of assigned.states)) (sym is) both.1;
  },
)

-- a slice that was written is the whole list again
pub written_back : {X : Type 0} (xs ys : List X) (n : ℕ) → n ≡ length xs → take n (xs ++ ys) ≡ xs
written_back [] ys n e = ap (λ (k : ℕ). take k ys) e
written_back (x ∷ xs) ys zero e = absurd (omega (arith, e))
written_back (x ∷ xs) ys (suc n) e = ap (λ zs. x ∷ zs) (written_back xs ys n (omega (arith, e)))

-- what is given, or why nothing is, where few are not enough
pub assigned_then : (states : List StoredState) (number live : ℕ) → IsFirstAbove few_scratch (states_in states) number live → (result : Result Assigned AssignError)
    → MatchResult result
    (λ assigned. LowBefore most_scratch (states_in states) (length states) × AreByRule most_scratch (states_in states) (registers_of assigned.states))
    (λ why. RefusesStates most_scratch (states_in states) why)
    → IfOk result (λ assigned. assigned.scratch ≡ most_scratch)
    → MatchResult result (λ assigned. LowBefore most_scratch (states_in states) (length states) × IsAssigned (states_in states) (registers_in assigned))
    (λ why. Refuses (states_in states) why)
assigned_then states number live first (Ok assigned) both is = assigned_most states assigned number live first is both
assigned_then states number live first (Err (Pressure at high)) why is = why
assigned_then states number live first (Err Memory) why is = tt
