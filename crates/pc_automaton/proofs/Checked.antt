-- States that were found to be those of an automaton are, and those that are, are found.
use Rattle.std.proofs.Common.{◌≡◌, ℕ, List, [], ◌∷◌, ◌++◌, Option, Some, None, length, refl, sym, ◌∙◌, ap}
use Rattle.std.specs.Prelude.{Bool, true, false, not, ◌||◌, ◌&&◌, ◌↔◌, nat_eq, nat_lt, slice_get}
use Rattle.std.specs.List.{list_all, AllByRecursion, IsDistinct, filter_map, cons_option}
use Rattle.std.proofs.lemmas.List.Folds.{list_any-append, list_all-map}
use Rattle.std.proofs.lemmas.List.Elements.{filter_map-append}
use Rattle.std.proofs.lemmas.Bool.{eqb-true, eq-eqb, ltb-true, lt-ltb}
use Rattle.std.proofs.lemmas.List.{length-map}
use Rattle.pc_word.proofs.Truth.{and_true, and_made, or_false, or_made_false, not_true}
use Rattle.pc_word.specs.declared.item.Operand.{Operand}
use Rattle.pc_word.specs.declared.item.Operand.TheVariants.{Name, Lit}
use Rattle.pc_word.specs.Items.{operands_of, dest_of}
use Rattle.pc_word.specs.Commit.{writes}
use Rattle.pc_word.specs.Row.{Row, Then, Either, At_leaf, items_of, tests_of, leaves_of}
use Rattle.pc_window.specs.declared.home.Home.{Home}
use Rattle.pc_window.specs.Names.{IsKnown, ReadsKnown, and_dest}
use Rattle.pc_window.specs.Rebasing.{is_in}
use Rattle.pc_window.proofs.Listed.{flipped}
use Rattle.pc_automaton.specs.declared.automaton.AutomatonLeaf.{AutomatonLeaf}
use Rattle.pc_automaton.specs.declared.automaton.AutomatonLeaf.TheVariants.{To, Out, Stop, Trap}
use Rattle.pc_automaton.specs.declared.automaton.AutomatonState.{AutomatonState as StoredState}
use Rattle.pc_automaton.specs.Automaton.{AutomatonState, state_in, states_in, is_parameter, names_written, LeafIsKnown, LeavesAreKnown, Takes, LeafLeads, IsStateAmong, IsAutomaton}
use Rattle.pc_automaton.specs.models.Checking.{knows, knows_item, knows_row, knows_leaf, knows_leaves, writes_in, spares}
use Rattle.pc_automaton.specs.models.Checking.{are_apart, writes_once, stand_once, takes, leads, all_lead, is_state, is_automaton}

-- ---- lists

-- what passes a test that tells is so of each
module _ {X : Type 0} (p : X → Bool) (P : X → Type 0) where
  all_true : ((x : X) → p x ≡ true → P x) → (xs : List X) → list_all p xs ≡ true → AllByRecursion P xs
  all_true tells [] h = tt
  all_true tells (x ∷ xs) h = let parts = and_true (p x) (list_all p xs) h in (tells x parts.0, all_true tells xs parts.1)

  all_made : ((x : X) → P x → p x ≡ true) → (xs : List X) → AllByRecursion P xs → list_all p xs ≡ true
  all_made told [] h = refl
  all_made told (x ∷ xs) h = and_made (p x) (list_all p xs) (told x h.0) (all_made told xs h.1)

module _ {X : Type 0} (P : X → Type 0) where
  both : (xs ys : List X) → AllByRecursion P xs → AllByRecursion P ys → AllByRecursion P (xs ++ ys)
  both [] ys h k = k
  both (x ∷ xs) ys h k = (h.0, both xs ys h.1 k)

  first : (xs ys : List X) → AllByRecursion P (xs ++ ys) → AllByRecursion P xs
  first [] ys h = tt
  first (x ∷ xs) ys h = (h.0, first xs ys h.1)

  second : (xs ys : List X) → AllByRecursion P (xs ++ ys) → AllByRecursion P ys
  second [] ys h = h
  second (x ∷ xs) ys h = second xs ys h.1

-- ---- what is known

knows_true : (known : ℕ → Bool) (o : Operand) → knows known o ≡ true → IsKnown known o
knows_true known (Name x) h = h
knows_true known (Lit value) h = tt

knows_made : (known : ℕ → Bool) (o : Operand) → IsKnown known o → knows known o ≡ true
knows_made known (Name x) h = h
knows_made known (Lit value) h = refl

row_true : (known : ℕ → Bool) (row : Row AutomatonLeaf) → knows_row known row ≡ true
    → AllByRecursion (ReadsKnown known) (items_of row) × AllByRecursion (IsKnown known) (tests_of row)
row_true known (Then item rest) h =
    let parts = and_true (knows_item known (operands_of item)) (knows_row known rest) h in
    let below = row_true known rest parts.1 in
    ((all_true (knows known) (IsKnown known) (knows_true known) (operands_of item) parts.0, below.0), below.1)
row_true known (Either on on_yes on_no) h =
    let parts = and_true (knows known on) (knows_row known on_yes && knows_row known on_no) h in
    let sides = and_true (knows_row known on_yes) (knows_row known on_no) parts.1 in
    let yes = row_true known on_yes sides.0 in
    let no = row_true known on_no sides.1 in
    (both (ReadsKnown known) (items_of on_yes) (items_of on_no) yes.0 no.0, (knows_true known on parts.0, both (IsKnown known) (tests_of on_yes) (tests_of on_no) yes.1 no.1))
row_true known (At_leaf leaf) h = (tt, tt)

row_made : (known : ℕ → Bool) (row : Row AutomatonLeaf) → AllByRecursion (ReadsKnown known) (items_of row) → AllByRecursion (IsKnown known) (tests_of row)
    → knows_row known row ≡ true
row_made known (Then item rest) h k =
    and_made (knows_item known (operands_of item)) (knows_row known rest) (all_made (knows known) (IsKnown known) (knows_made known) (operands_of item) h.0) (row_made known rest h.1 k)
row_made known (Either on on_yes on_no) h k =
    and_made (knows known on) (knows_row known on_yes && knows_row known on_no) (knows_made known on k.0)
    (and_made (knows_row known on_yes) (knows_row known on_no)
    (row_made known on_yes (first (ReadsKnown known) (items_of on_yes) (items_of on_no) h) (first (IsKnown known) (tests_of on_yes) (tests_of on_no) k.1))
    (row_made known on_no (second (ReadsKnown known) (items_of on_yes) (items_of on_no) h) (second (IsKnown known) (tests_of on_yes) (tests_of on_no) k.1)))
row_made known (At_leaf leaf) h k = refl

leaf_true : (known : ℕ → Bool) (leaf : AutomatonLeaf) → knows_leaf known leaf ≡ true → LeafIsKnown known leaf
leaf_true known (To state arguments) h = all_true (knows known) (IsKnown known) (knows_true known) arguments h
leaf_true known (Out region homes) h =
    all_true (λ (home : Home). knows known home.value) (λ (home : Home). IsKnown known home.value) (λ home. knows_true known home.value) homes h
leaf_true known Stop h = tt
leaf_true known (Trap kind line) h = tt

leaf_made : (known : ℕ → Bool) (leaf : AutomatonLeaf) → LeafIsKnown known leaf → knows_leaf known leaf ≡ true
leaf_made known (To state arguments) h = all_made (knows known) (IsKnown known) (knows_made known) arguments h
leaf_made known (Out region homes) h =
    all_made (λ (home : Home). knows known home.value) (λ (home : Home). IsKnown known home.value) (λ home. knows_made known home.value) homes h
leaf_made known Stop h = refl
leaf_made known (Trap kind line) h = refl

leaves_true : (known : ℕ → Bool) (row : Row AutomatonLeaf) → knows_leaves known row ≡ true → LeavesAreKnown known row
leaves_true known (Then item rest) h = leaves_true (and_dest known item) rest h
leaves_true known (Either on on_yes on_no) h =
    let sides = and_true (knows_leaves known on_yes) (knows_leaves known on_no) h in
    (leaves_true known on_yes sides.0, leaves_true known on_no sides.1)
leaves_true known (At_leaf leaf) h = leaf_true known leaf h

leaves_made : (known : ℕ → Bool) (row : Row AutomatonLeaf) → LeavesAreKnown known row → knows_leaves known row ≡ true
leaves_made known (Then item rest) h = leaves_made (and_dest known item) rest h
leaves_made known (Either on on_yes on_no) h =
    and_made (knows_leaves known on_yes) (knows_leaves known on_no) (leaves_made known on_yes h.0) (leaves_made known on_no h.1)
leaves_made known (At_leaf leaf) h = leaf_made known leaf h

-- ---- where leaves lead

takes_true : (found : Option AutomatonState) (count : ℕ) → takes found count ≡ true → Takes found count
takes_true (Some state) count h = eqb-true count (length state.parameters) h
takes_true None count h = absurd (cc)

takes_made : (found : Option AutomatonState) (count : ℕ) → Takes found count → takes found count ≡ true
takes_made (Some state) count h = eq-eqb count (length state.parameters) h
takes_made None count h = absurd h

module _ (states : List AutomatonState) where
  leads_true : (leaf : AutomatonLeaf) → leads states leaf ≡ true → LeafLeads states leaf
  leads_true (To state arguments) h = takes_true (slice_get states state) (length arguments) h
  leads_true (Out region homes) h = tt
  leads_true Stop h = tt
  leads_true (Trap kind line) h = tt

  leads_made : (leaf : AutomatonLeaf) → LeafLeads states leaf → leads states leaf ≡ true
  leads_made (To state arguments) h = takes_made (slice_get states state) (length arguments) h
  leads_made (Out region homes) h = refl
  leads_made Stop h = refl
  leads_made (Trap kind line) h = refl

  lead_true : (row : Row AutomatonLeaf) → all_lead states row ≡ true → AllByRecursion (LeafLeads states) (leaves_of row)
  lead_true (Then item rest) h = lead_true rest h
  lead_true (Either on on_yes on_no) h =
      let sides = and_true (all_lead states on_yes) (all_lead states on_no) h in
      both (LeafLeads states) (leaves_of on_yes) (leaves_of on_no) (lead_true on_yes sides.0) (lead_true on_no sides.1)
  lead_true (At_leaf leaf) h = (leads_true leaf h, tt)

  lead_made : (row : Row AutomatonLeaf) → AllByRecursion (LeafLeads states) (leaves_of row) → all_lead states row ≡ true
  lead_made (Then item rest) h = lead_made rest h
  lead_made (Either on on_yes on_no) h =
      and_made (all_lead states on_yes) (all_lead states on_no)
      (lead_made on_yes (first (LeafLeads states) (leaves_of on_yes) (leaves_of on_no) h))
      (lead_made on_no (second (LeafLeads states) (leaves_of on_yes) (leaves_of on_no) h))
  lead_made (At_leaf leaf) h = leads_made leaf h.0

-- ---- each name once

-- whether each element of a list stands there once
abbrev are_distinct : List ℕ → Bool
are_distinct [] = true
are_distinct (x ∷ xs) = not (is_in x xs) && are_distinct xs

-- whether no element of a list is in another
abbrev none_in : List ℕ → List ℕ → Bool
none_in [] ys = true
none_in (x ∷ xs) ys = not (is_in x ys) && none_in xs ys

absent_true : (x : ℕ) (ys : List ℕ) → not (is_in x ys) ≡ true → AllByRecursion (λ y. nat_eq x y ≡ false) ys
absent_true x [] h = tt
absent_true x (y ∷ ys) h = let parts = or_false (nat_eq x y) (is_in x ys) (not_true (is_in x (y ∷ ys)) h) in (parts.0, absent_true x ys (ap not parts.1))

absent_made : (x : ℕ) (ys : List ℕ) → AllByRecursion (λ y. nat_eq x y ≡ false) ys → is_in x ys ≡ false
absent_made x [] h = refl
absent_made x (y ∷ ys) h = or_made_false (nat_eq x y) (is_in x ys) h.0 (absent_made x ys h.1)

distinct_true : (xs : List ℕ) → are_distinct xs ≡ true → IsDistinct nat_eq xs
unfolding IsDistinct
distinct_true [] h = tt
distinct_true (x ∷ xs) h = let parts = and_true (not (is_in x xs)) (are_distinct xs) h in (absent_true x xs parts.0, distinct_true xs parts.1)

distinct_made : (xs : List ℕ) → IsDistinct nat_eq xs → are_distinct xs ≡ true
unfolding IsDistinct
distinct_made [] h = refl
distinct_made (x ∷ xs) h = and_made (not (is_in x xs)) (are_distinct xs) (ap not (absent_made x xs h.0)) (distinct_made xs h.1)

-- of one list behind another
shuffled : (a b c d e : Bool) → (not (a || b) && (c && (d && e))) ≡ ((not b && c) && ((not a && d) && e))
shuffled true true c d e = refl
shuffled true false true d e = refl
shuffled true false false d e = refl
shuffled false true c d e = refl
shuffled false false true d e = refl
shuffled false false false d e = refl

distinct_append : (xs ys : List ℕ) → are_distinct (xs ++ ys) ≡ (none_in xs ys && (are_distinct xs && are_distinct ys))
distinct_append [] ys = refl
distinct_append (x ∷ xs) ys =
    (λ i. not (list_any-append (nat_eq x) xs ys i) && distinct_append xs ys i)
    ∙ shuffled (is_in x xs) (is_in x ys) (none_in xs ys) (are_distinct xs) (are_distinct ys)

joined : (a b c : Bool) → (a && (b && c)) ≡ ((a && b) && c)
joined true b c = refl
joined false b c = refl

none_append : (xs ys zs : List ℕ) → none_in (xs ++ ys) zs ≡ (none_in xs zs && none_in ys zs)
none_append [] ys zs = refl
none_append (x ∷ xs) ys zs =
    ap (λ (b : Bool). not (is_in x zs) && b) (none_append xs ys zs) ∙ joined (not (is_in x zs)) (none_in xs zs) (none_in ys zs)

-- ---- the names that a row writes

pub sides_written : (on_yes on_no : Row AutomatonLeaf) → filter_map dest_of (items_of on_yes ++ items_of on_no) ≡ names_written on_yes ++ names_written on_no
sides_written on_yes on_no = filter_map-append dest_of (items_of on_yes) (items_of on_no)

in_cons : (x : ℕ) (found : Option ℕ) (names : List ℕ) → (writes found x || is_in x names) ≡ is_in x (cons_option found names)
in_cons x (Some dest) names = ap (λ (b : Bool). b || is_in x names) (flipped dest x)
in_cons x None names = refl

writes_in_is : (row : Row AutomatonLeaf) (x : ℕ) → writes_in row x ≡ is_in x (names_written row)
writes_in_is (Then item rest) x = ap (λ (b : Bool). writes (dest_of item) x || b) (writes_in_is rest x) ∙ in_cons x (dest_of item) (names_written rest)
writes_in_is (Either on on_yes on_no) x =
    (λ i. writes_in_is on_yes x i || writes_in_is on_no x i) ∙ sym (list_any-append (nat_eq x) (names_written on_yes) (names_written on_no))
    ∙ ap (is_in x) (sym (sides_written on_yes on_no))
writes_in_is (At_leaf leaf) x = refl

none_cons : (row : Row AutomatonLeaf) (found : Option ℕ) (names : List ℕ)
    → (spares row found && none_in names (names_written row)) ≡ none_in (cons_option found names) (names_written row)
none_cons row (Some dest) names = ap (λ (b : Bool). not b && none_in names (names_written row)) (writes_in_is row dest)
none_cons row None names = refl

are_apart_is : (row other : Row AutomatonLeaf) → are_apart row other ≡ none_in (names_written row) (names_written other)
are_apart_is (Then item rest) other = ap (λ (b : Bool). spares other (dest_of item) && b) (are_apart_is rest other) ∙ none_cons other (dest_of item) (names_written rest)
are_apart_is (Either on on_yes on_no) other =
    (λ i. are_apart_is on_yes other i && are_apart_is on_no other i) ∙ sym (none_append (names_written on_yes) (names_written on_no) (names_written other))
    ∙ ap (λ (names : List ℕ). none_in names (names_written other)) (sym (sides_written on_yes on_no))
are_apart_is (At_leaf leaf) other = refl

distinct_cons : (row : Row AutomatonLeaf) (found : Option ℕ) → (spares row found && are_distinct (names_written row)) ≡ are_distinct (cons_option found (names_written row))
distinct_cons row (Some dest) = ap (λ (b : Bool). not b && are_distinct (names_written row)) (writes_in_is row dest)
distinct_cons row None = refl

writes_once_is : (row : Row AutomatonLeaf) → writes_once row ≡ are_distinct (names_written row)
writes_once_is (Then item rest) = ap (λ (b : Bool). spares rest (dest_of item) && b) (writes_once_is rest) ∙ distinct_cons rest (dest_of item)
writes_once_is (Either on on_yes on_no) =
    (λ i. are_apart_is on_yes on_no i && (writes_once_is on_yes i && writes_once_is on_no i))
    ∙ sym (distinct_append (names_written on_yes) (names_written on_no)) ∙ ap are_distinct (sym (sides_written on_yes on_no))
writes_once_is (At_leaf leaf) = refl

paired : (a b c d : Bool) → (a && (b && (c && d))) ≡ ((a && c) && (b && d))
paired true true c d = refl
paired true false true d = refl
paired true false false d = refl
paired false b c d = refl

stand_once_is : (xs : List ℕ) (row : Row AutomatonLeaf) → stand_once xs row ≡ (are_distinct xs && none_in xs (names_written row))
stand_once_is [] row = refl
stand_once_is (x ∷ xs) row =
    (λ i. not (is_in x xs) && (not (writes_in_is row x i) && stand_once_is xs row i))
    ∙ paired (not (is_in x xs)) (not (is_in x (names_written row))) (are_distinct xs) (none_in xs (names_written row))

turned : (a b c : Bool) → ((a && b) && c) ≡ (b && (a && c))
turned true b c = refl
turned false true c = refl
turned false false c = refl

once_is : (xs : List ℕ) (row : Row AutomatonLeaf) → (stand_once xs row && writes_once row) ≡ are_distinct (xs ++ names_written row)
once_is xs row =
    (λ i. stand_once_is xs row i && writes_once_is row i) ∙ turned (are_distinct xs) (none_in xs (names_written row)) (are_distinct (names_written row))
    ∙ sym (distinct_append xs (names_written row))

-- ---- the whole

module _ (states : List AutomatonState) where
  state_true : (state : AutomatonState) → is_state states state ≡ true → IsStateAmong states state
  state_true state h =
      let known = is_parameter state in
      let row = state.row in
      let one = and_true (knows_row known row) (knows_leaves known row && (stand_once state.parameters row && (writes_once row && all_lead states row))) h in
      let two = and_true (knows_leaves known row) (stand_once state.parameters row && (writes_once row && all_lead states row)) one.1 in
      let three = and_true (stand_once state.parameters row) (writes_once row && all_lead states row) two.1 in
      let four = and_true (writes_once row) (all_lead states row) three.1 in
      record {
        items = (row_true known row one.0).0;
        tests = (row_true known row one.0).1;
        leaves = leaves_true known row two.0;
        once = distinct_true (state.parameters ++ names_written row) (sym (once_is state.parameters row) ∙ and_made (stand_once state.parameters row) (writes_once row) three.0 four.0);
        lead = lead_true states row four.1;
      }

  state_made : (state : AutomatonState) → IsStateAmong states state → is_state states state ≡ true
  state_made state h =
      let known = is_parameter state in
      let row = state.row in
      let once = and_true (stand_once state.parameters row) (writes_once row) (once_is state.parameters row ∙ distinct_made (state.parameters ++ names_written row) h.once) in
      and_made (knows_row known row) (knows_leaves known row && (stand_once state.parameters row && (writes_once row && all_lead states row))) (row_made known row h.items h.tests)
      (and_made (knows_leaves known row) (stand_once state.parameters row && (writes_once row && all_lead states row)) (leaves_made known row h.leaves)
      (and_made (stand_once state.parameters row) (writes_once row && all_lead states row) once.0
      (and_made (writes_once row) (all_lead states row) once.1 (lead_made states row h.lead))))

-- the code's answer is exact
pub automaton_exact : (states : List AutomatonState) (found : Bool) → found ≡ is_automaton states → (found ≡ true) ↔ IsAutomaton states
automaton_exact states found is = (
  (λ h. let parts = and_true (nat_lt 0 (length states)) (list_all (is_state states) states) (sym is ∙ h) in
      record { some = ltb-true 0 (length states) parts.0; each = all_true (is_state states) (IsStateAmong states) (state_true states) states parts.1 }),
  (λ h. is ∙ and_made (nat_lt 0 (length states)) (list_all (is_state states) states) (lt-ltb 0 (length states) h.some)
      (all_made (is_state states) (IsStateAmong states) (state_made states) states h.each)),
)

-- among states as they lie in memory
stored_is : (states : List StoredState)
    → (nat_lt 0 (length states) && list_all (λ state. is_state (states_in states) (state_in state)) states) ≡ is_automaton (states_in states)
stored_is states = λ i. nat_lt 0 (sym (length-map states state_in) i) && sym (list_all-map (is_state (states_in states)) state_in states) i

pub stored_some : (states : List StoredState) (found : Bool) → nat_lt 0 (length states) ≡ true → found ≡ list_all (λ state. is_state (states_in states) (state_in state)) states
    → found ≡ is_automaton (states_in states)
stored_some states found some is = is ∙ ap (λ (b : Bool). b && list_all (λ state. is_state (states_in states) (state_in state)) states) (sym some) ∙ stored_is states

pub stored_none : (states : List StoredState) (found : Bool) → found ≡ nat_lt 0 (length states) → found ≡ false → found ≡ is_automaton (states_in states)
stored_none states found is none =
    none ∙ ap (λ (b : Bool). b && list_all (λ state. is_state (states_in states) (state_in state)) states) (sym none ∙ is) ∙ stored_is states

pub ruleset automata = (automaton_exact, stored_some, stored_none)
