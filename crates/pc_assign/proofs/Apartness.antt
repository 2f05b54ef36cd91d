-- Names that are live together have different registers.
use Rattle.std.proofs.Common.{◌≡◌, ℕ, zero, suc, ◌<◌, ◌≤◌, Bool, true, false, ◌&&◌, ◌||◌, List, [], ◌∷◌, ◌++◌, length, take, Option, Some, None}
use Rattle.std.proofs.Common.{refl, sym, ◌∙◌, ap, subst, arith, unwrap_or}
use Rattle.std.specs.Prelude.{nat_eq, slice_get, IsSomeAnd, MatchBool}
use Rattle.std.specs.List.{IsDistinct, AllByRecursion, cons_option}
use Rattle.std.proofs.lemmas.Bool.Decides.{nat_tests}
use Rattle.std.proofs.lemmas.List.Elements.{filter_map-append}
use Rattle.pc_word.specs.Row.{Row, Then, Either, At_leaf, items_of}
use Rattle.pc_word.specs.Items.{dest_of}
use Rattle.pc_word.proofs.Truth.{or_false}
use Rattle.pc_word.proofs.Lists.{all_at, all_front, all_both}
use Rattle.pc_window.specs.Names.{named}
use Rattle.pc_window.specs.Rebasing.{is_in}
use Rattle.pc_automaton.specs.declared.automaton.AutomatonLeaf.{AutomatonLeaf}
use Rattle.pc_automaton.specs.Automaton.{AutomatonState, names_written, IsStateAmong, IsAutomaton}
use Rattle.pc_assign.specs.Uses.{row_uses}
use Rattle.pc_assign.specs.Pressure.{IsScratch, Last_of_few, Last_of_most}
use Rattle.pc_assign.specs.Assigned.{state_names, is_register, one_has, used_has, IsLeast, IsParameterChoice, passed_at, ParametersByRule, states_pass}
use Rattle.pc_assign.specs.Assigned.{passed_to, Parameters, IsDefinitionChoice, First_choice, Second_choice, DestByRule, RowByRule, StateByRule, IsAssigned}
use Rattle.pc_assign.specs.Assigned.{Registers, BeginsWithVariables}
use Rattle.pc_assign.specs.Apart.{Differ, AllDiffer, DestApart, KeepsApart, HasAllowed, IsApart, LiveApart, VariablesStay}
use Rattle.pc_assign.proofs.PassedOn.{PassedAll, HeldAll, states_passed}

itself : (r : ℕ) → nat_eq r r ≡ true
itself r = grind (arith, nat_tests)

-- a register that none of some names has
differ_from : (of : ℕ → Option ℕ) (name register : ℕ) (names : List ℕ) → of name ≡ Some register → one_has of names register ≡ false
    → AllByRecursion (Differ of name) names
differ_from of name register [] is none = tt
differ_from of name register (x ∷ names) is none =
    let parts = or_false (is_register register (of x)) (one_has of names register) none in (
      λ r one other.
          let same : register ≡ r = let both : Some register ≡ Some r = sym is ∙ one in (cc) in
          let found : is_register register (of x) ≡ true = ap (is_register register) other ∙ ap (λ (q : ℕ). nat_eq register q) (sym same)
          ∙ itself register in
          absurd (cc),
      differ_from of name register names is parts.1,
    )

-- nor one of those that are used
differ_where_used : (of : ℕ → Option ℕ) (used : ℕ → Bool) (name register : ℕ) (names : List ℕ) → of name ≡ Some register
    → used_has used of names register ≡ false
    → AllByRecursion (λ x. used x ≡ true → Differ of name x) names
differ_where_used of used name register [] is none = tt
differ_where_used of used name register (x ∷ names) is none =
    let parts = or_false (used x && is_register register (of x)) (used_has used of names register) none in (
      λ uses r one other.
          let same : register ≡ r = let both : Some register ≡ Some r = sym is ∙ one in (cc) in
          let found : is_register register (of x) ≡ true = ap (is_register register) other ∙ ap (λ (q : ℕ). nat_eq register q) (sym same)
          ∙ itself register in
          let here : (used x && is_register register (of x)) ≡ true = (λ i. uses i && found i) in
          absurd (cc),
      differ_where_used of used name register names is parts.1,
    )

always : (of : ℕ → Option ℕ) (used : ℕ → Bool) (name : ℕ) (names : List ℕ) → AllByRecursion (Differ of name) names
    → AllByRecursion (λ x. used x ≡ true → Differ of name x) names
always of used name [] h = tt
always of used name (x ∷ names) h = (λ uses. h.0, always of used name names h.1)

-- ---- rows

dest_apart : (scratch : ℕ) (of : ℕ → Option ℕ) (parameters above : List ℕ) (rest : Row AutomatonLeaf) (found : Option ℕ) → DestByRule scratch of parameters above rest found
    → DestApart of parameters above rest found
dest_apart scratch of parameters above rest None h = tt
dest_apart scratch of parameters above rest (Some dest) h = by (of dest) refl h
  where
    chosen : (register : ℕ) → of dest ≡ Some register → IsDefinitionChoice scratch (λ q. one_has of parameters q || one_has of above q)
        (λ q. used_has (row_uses rest) of parameters q || one_has of above q) register
        → DestApart of parameters above rest (Some dest)
    chosen register is (First_choice least) =
        let parts = or_false (one_has of parameters register) (one_has of above register) least.free in (
          always of (row_uses rest) dest parameters
              (differ_from of dest register parameters is parts.0),
          differ_from of dest register above is parts.1,
        )
    chosen register is (Second_choice full least) =
        let parts = or_false (used_has (row_uses rest) of parameters register) (one_has of above register) least.free in
        (differ_where_used of (row_uses rest) dest register parameters is parts.0, differ_from of dest register above is parts.1)

    by : (o : Option ℕ) → of dest ≡ o → IsSomeAnd o
        (IsDefinitionChoice scratch (λ q. one_has of parameters q || one_has of above q) (λ q. used_has (row_uses rest) of parameters q || one_has of above q))
        → DestApart of parameters above rest (Some dest)
    by None is h = absurd h
    by (Some register) is h = chosen register is h

row_apart : (scratch : ℕ) (of : ℕ → Option ℕ) (parameters above : List ℕ) (row : Row AutomatonLeaf) → RowByRule scratch of parameters above row
    → KeepsApart of parameters above row
row_apart scratch of parameters above (Then item rest) h =
    (dest_apart scratch of parameters above rest (dest_of item) h.0, row_apart scratch of parameters (named (dest_of item) above) rest h.1)
row_apart scratch of parameters above (Either on on_yes on_no) h = (row_apart scratch of parameters above on_yes h.0, row_apart scratch of parameters above on_no h.1)
row_apart scratch of parameters above (At_leaf leaf) h = tt

choice_below : (scratch : ℕ) (taken needed : ℕ → Bool) (register : ℕ) → IsDefinitionChoice scratch taken needed register → register < scratch
choice_below scratch taken needed register (First_choice least) = least.below
choice_below scratch taken needed register (Second_choice full least) = least.below

row_allowed : (scratch : ℕ) (of : ℕ → Option ℕ) (parameters above : List ℕ) (row : Row AutomatonLeaf) → RowByRule scratch of parameters above row
    → AllByRecursion (HasAllowed scratch of) (names_written row)
row_allowed scratch of parameters above (Then item rest) h = by (dest_of item) h.0 (row_allowed scratch of parameters (named (dest_of item) above) rest h.1)
  where
    has : (dest : ℕ) (taken needed : ℕ → Bool) (o : Option ℕ) → of dest ≡ o → IsSomeAnd o (IsDefinitionChoice scratch taken needed) → HasAllowed scratch of dest
    has dest taken needed None is k = absurd k
    has dest taken needed (Some register) is k = record { register = register; has = is; below = choice_below scratch taken needed register k }

    by : (found : Option ℕ) → DestByRule scratch of parameters above rest found → AllByRecursion (HasAllowed scratch of) (names_written rest)
        → AllByRecursion (HasAllowed scratch of) (cons_option found (names_written rest))
    by None k later = later
    by (Some dest) k later = (
      has dest (λ q. one_has of parameters q || one_has of above q) (λ q. used_has (row_uses rest) of parameters q || one_has of above q)
          (of dest) refl k,
      later,
    )
row_allowed scratch of parameters above (Either on on_yes on_no) h =
    subst (λ (names : List ℕ). AllByRecursion (HasAllowed scratch of) names) (sym (filter_map-append dest_of (items_of on_yes) (items_of on_no)))
    (all_both (HasAllowed scratch of) (names_written on_yes) (names_written on_no) (row_allowed scratch of parameters above on_yes h.0)
    (row_allowed scratch of parameters above on_no h.1))
row_allowed scratch of parameters above (At_leaf leaf) h = tt

-- ---- parameters

-- a parameter's register is allowed, and none before it has it
pub record IsFresh (scratch : ℕ) (of : ℕ → Option ℕ) (before : List ℕ) (name : ℕ) : Type 0 where
  pub allowed : HasAllowed scratch of name
  pub free : one_has of before allowed.register ≡ false

choice_fresh : (scratch : ℕ) (taken : ℕ → Bool) (passed : Option ℕ) (register : ℕ) → ((r : ℕ) → passed ≡ Some r → r < scratch)
    → IsParameterChoice scratch taken passed register
    → (register < scratch) × (taken register ≡ false)
choice_fresh scratch taken None register below h = (h.below, h.free)
choice_fresh scratch taken (Some passed) register below h = by (taken passed) refl h
  where
    by : (b : Bool) → taken passed ≡ b → MatchBool b (IsLeast scratch taken register) (register ≡ passed) → (register < scratch) × (taken register ≡ false)
    by true is k = (k.below, k.free)
    by false is k = (subst (λ (r : ℕ). r < scratch) (sym k) (below passed refl), ap taken k ∙ is)

fresh_at : (scratch : ℕ) (of : ℕ → Option ℕ) (passed : List (Option ℕ)) (parameters : List ℕ) → PassedAll (λ r. r < scratch) passed
    → ParametersByRule scratch of passed parameters
    → (at name : ℕ) → slice_get parameters at ≡ Some name → IsFresh scratch of (take at parameters) name
fresh_at scratch of passed parameters below h at name here = by (of name) refl (h at name here)
  where
    by : (o : Option ℕ) → of name ≡ o → IsSomeAnd o (IsParameterChoice scratch (one_has of (take at parameters)) (passed_at (slice_get passed at)))
        → IsFresh scratch of (take at parameters) name
    by None is k = absurd k
    by (Some register) is k =
        let it = choice_fresh scratch (one_has of (take at parameters)) (passed_at (slice_get passed at)) register (below at) k in
        record { allowed = record { register = register; has = is; below = it.0 }; free = it.1 }

pub all_of_each : (P : ℕ → Type 0) (xs : List ℕ) → ((at x : ℕ) → slice_get xs at ≡ Some x → P x) → AllByRecursion P xs
all_of_each P [] h = tt
all_of_each P (x ∷ xs) h = (h 0 x refl, all_of_each P xs (λ at y e. h (suc at) y e))

-- one of the front is not among what follows
one_has_front : (of : ℕ → Option ℕ) (front : List ℕ) (x r : ℕ) → one_has of (front ++ x ∷ []) r ≡ false
    → (one_has of front r ≡ false) × (is_register r (of x) ≡ false)
one_has_front of [] x r h = let parts = or_false (is_register r (of x)) false h in (refl, parts.0)
one_has_front of (y ∷ front) x r h =
    let parts = or_false (is_register r (of y)) (one_has of (front ++ x ∷ []) r) h in
    let rest = one_has_front of front x r parts.1 in
    ((λ i. parts.0 i || rest.0 i), rest.1)

-- each differs from all before it; so do all from each other
pub fresh_differ : (scratch : ℕ) (of : ℕ → Option ℕ) (xs : List ℕ) → ((at x : ℕ) → slice_get xs at ≡ Some x → IsFresh scratch of (take at xs) x) → AllDiffer of xs
fresh_differ scratch of [] h = tt
fresh_differ scratch of (x ∷ xs) h = (
  all_of_each (Differ of x) xs (λ at y e r one other. clash at y r one other (h (suc at) y e)),
  fresh_differ scratch of xs
      (λ at y e. later at y (h (suc at) y e)),
)
  where
    clash : (at y r : ℕ) → of x ≡ Some r → of y ≡ Some r → IsFresh scratch of (x ∷ take at xs) y → ⊥
    clash at y r one other fresh =
        let same : r ≡ fresh.allowed.register = let both : Some r ≡ Some fresh.allowed.register = sym other ∙ fresh.allowed.has in (cc) in
        let parts = or_false (is_register fresh.allowed.register (of x)) (one_has of (take at xs) fresh.allowed.register) fresh.free in
        let found : is_register fresh.allowed.register (of x) ≡ true =
        ap (is_register fresh.allowed.register) one ∙ ap (λ (q : ℕ). nat_eq fresh.allowed.register q) same ∙ itself fresh.allowed.register in
        absurd (cc)

    later : (at y : ℕ) → IsFresh scratch of (x ∷ take at xs) y → IsFresh scratch of (take at xs) y
    later at y fresh = record {
      allowed = fresh.allowed;
      free = (or_false (is_register fresh.allowed.register (of x)) (one_has of (take at xs) fresh.allowed.register) fresh.free).1;
    }

-- distinct variables in the registers of their numbers
variables_differ : (of : ℕ → Option ℕ) (xs : List ℕ) → IsDistinct nat_eq xs → AllByRecursion (λ x. of x ≡ Some x) xs → AllDiffer of xs
unfolding IsDistinct
variables_differ of [] once h = tt
variables_differ of (x ∷ xs) once h = (differ x xs h.0 once.0 h.1, variables_differ of xs once.1 h.1)
  where
    differ : (y : ℕ) (ys : List ℕ) → of y ≡ Some y → AllByRecursion (λ z. nat_eq y z ≡ false) ys → AllByRecursion (λ z. of z ≡ Some z) ys
        → AllByRecursion (Differ of y) ys
    differ y [] is apart each = tt
    differ y (z ∷ ys) is apart each = (
      (λ r one other.
          let first : Some y ≡ Some r = sym is ∙ one in
          let second : Some z ≡ Some r = sym each.0 ∙ other in
          let same : y ≡ z = (cc) in
          let found : nat_eq y z ≡ true = ap (λ (q : ℕ). nat_eq y q) (sym same) ∙ itself y in
          absurd (cc)),
      differ y ys is apart.1 each.1,
    )

variables_allowed : (scratch : ℕ) (of : ℕ → Option ℕ) (xs : List ℕ) → 96 ≤ scratch → AllByRecursion (λ x. x < 96) xs → AllByRecursion (λ x. of x ≡ Some x) xs
    → AllByRecursion (HasAllowed scratch of) xs
variables_allowed scratch of [] enough below h = tt
variables_allowed scratch of (x ∷ xs) enough below h = (record { register = x; has = h.0; below = omega (arith, below.0) }, variables_allowed scratch of xs enough below.1 h.1)

distinct_front : (xs ys : List ℕ) → IsDistinct nat_eq (xs ++ ys) → IsDistinct nat_eq xs
unfolding IsDistinct
distinct_front [] ys h = tt
distinct_front (x ∷ xs) ys h = (all_front (λ y. nat_eq x y ≡ false) xs ys h.0, distinct_front xs ys h.1)

-- ---- states

-- what holds of each of a list's elements holds of each that is in it
pub all_in : (P : ℕ → Type 0) (xs : List ℕ) (x : ℕ) → AllByRecursion P xs → is_in x xs ≡ true → P x
all_in P [] x h e = absurd (cc)
all_in P (y ∷ xs) x h e = by (nat_eq x y) refl (all_in P xs x h.1) e
  where
    same_of : (m k : ℕ) → nat_eq m k ≡ true → m ≡ k
    same_of m k h = grind (arith, nat_tests)

    by : (b : Bool) → nat_eq x y ≡ b → (is_in x xs ≡ true → P x) → (b || is_in x xs) ≡ true → P x
    by true is later e = subst (λ (z : ℕ). P z) (sym (same_of x y is)) h.0
    by false is later e = later e

-- the registers of a state are allowed, where those that it is passed are
state_apart : (scratch : ℕ) (states : List AutomatonState) (number : ℕ) (passed : List (Option ℕ)) (of : ℕ → Option ℕ) (state : AutomatonState)
    → IsDistinct nat_eq (state_names state) → 96 ≤ scratch
    → (number ≡ 0 → AllByRecursion (λ variable. variable < 96) state.parameters) → PassedAll (λ r. r < scratch) passed
    → StateByRule scratch number passed of state → IsApart scratch of state
state_apart scratch states number passed of state once enough variables below h =
    let given = parameters_apart number (variables) h.parameters in
    record {
      parameters = given.0;
      row = row_apart scratch of state.parameters [] state.row h.row;
      allowed = all_both (HasAllowed scratch of) state.parameters (names_written state.row) given.1 (row_allowed scratch of state.parameters [] state.row h.row);
    }
  where
    parameters_apart : (n : ℕ) → (n ≡ 0 → AllByRecursion (λ variable. variable < 96) state.parameters) → Parameters scratch n of passed state.parameters
        → AllDiffer of state.parameters × AllByRecursion (HasAllowed scratch of) state.parameters
    parameters_apart zero small k = (
      variables_differ of state.parameters
          (distinct_front state.parameters (names_written state.row) once) k,
      variables_allowed scratch of state.parameters enough (small refl) k,
    )
    parameters_apart (suc n) small k = (
      fresh_differ scratch of state.parameters (fresh_at scratch of passed state.parameters below k),
      all_of_each (HasAllowed scratch of) state.parameters (λ at x e. (fresh_at scratch of passed state.parameters below k at x e).allowed),
    )

held_of : (scratch : ℕ) (of : ℕ → Option ℕ) (state : AutomatonState) → IsApart scratch of state → ((name : ℕ) → is_in name (state_names state) ≡ false → of name ≡ None)
    → HeldAll (λ r. r < scratch) of
held_of scratch of state apart others name r e = by (is_in name (state_names state)) refl
  where
    by : (b : Bool) → is_in name (state_names state) ≡ b → r < scratch
    by true is =
        let has = all_in (HasAllowed scratch of) (state_names state) name apart.allowed is in
        let both : Some r ≡ Some has.register = sym e ∙ has.has in
        let same : r ≡ has.register = (cc) in subst (λ (q : ℕ). q < scratch) (sym same) has.below
    by false is = let none : of name ≡ None = others name is in absurd (cc)

pub short : {X : Type 0} (xs : List X) (n : ℕ) → length (take n xs) ≤ n
short xs zero = omega arith
short [] (suc n) = omega arith
short (x ∷ xs) (suc n) = omega (arith, short xs n)

pub past : (states : List AutomatonState) (at : ℕ) → slice_get states at ≡ None → length states ≤ at
past [] at e = omega arith
past (state ∷ states) zero e = absurd (cc)
past (state ∷ states) (suc at) e = omega (arith, past states at e)

-- variables have registers below scratch
scratch_enough : (states : List AutomatonState) (scratch : ℕ) → IsScratch states scratch → 96 ≤ scratch
scratch_enough states scratch (Last_of_few is low) = omega (arith, is)
scratch_enough states scratch (Last_of_most is high) = omega (arith, is)

module _ (states : List AutomatonState) (registers : Registers) (kept : IsAutomaton states) (begins : BeginsWithVariables states)
    (given : IsAssigned states registers) where
  abbrev scratch : ℕ
  scratch = registers.scratch

  abbrev R : ℕ → ℕ → Option ℕ
  R = registers.of

  passed_below : (number : ℕ) → ((at : ℕ) → at < number → HeldAll (λ r. r < scratch) (R at))
      → PassedAll (λ r. r < scratch) (passed_to states R number)
  passed_below number before = by (states_pass R number 0 (take number states))
      (states_passed (λ r. r < scratch) R number 0 (take number states) (λ at h. before at (omega (arith, short states number))))
    where
      by : (o : Option (List (Option ℕ))) → ((passed : List (Option ℕ)) → o ≡ Some passed → PassedAll (λ r. r < scratch) passed)
          → PassedAll (λ r. r < scratch) (unwrap_or o [])
      by (Some passed) h = h passed refl
      by None h = λ at r e. absurd (cc)

  apart_after : (number : ℕ) → ((at : ℕ) → at < number → HeldAll (λ r. r < scratch) (R at)) → (state : AutomatonState)
      → slice_get states number ≡ Some state → IsApart scratch (R number) state
  apart_after number before state here =
      state_apart scratch states number (passed_to states R number) (R number) state (all_at (IsStateAmong states) states number state kept.each here).once
      (scratch_enough states scratch given.left)
      (λ first. begins.below state (ap (slice_get states) (sym first) ∙ here)) (passed_below number before) (given.rule.each number state here)

  held_before : (n at : ℕ) → at < n → HeldAll (λ r. r < scratch) (R at)
  held_before zero at h = absurd (omega arith)
  held_before (suc n) at h = by (slice_get states at) refl (λ k less. held_before n k (omega arith))
    where
      by : (o : Option AutomatonState) → slice_get states at ≡ o → ((k : ℕ) → k < at → HeldAll (λ r. r < scratch) (R k))
          → HeldAll (λ r. r < scratch) (R at)
      by (Some state) here before = held_of scratch (R at) state (apart_after at before state here) (given.rule.each at state here).others
      by None out before = λ name r e.
          let none : R at name ≡ None = given.rule.none at name (past states at out) in absurd (cc)

pub live_apart : LiveApart
live_apart states registers kept begins given number state here = apart_after states registers kept begins given number
    (held_before states registers kept begins given number) state here

pub variables_stay : VariablesStay
variables_stay states registers given state here = (given.rule.each 0 state here).parameters
