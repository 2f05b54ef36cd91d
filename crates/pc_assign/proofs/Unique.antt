-- The rule leaves no choice.
use Rattle.std.proofs.Common.{◌≡◌, ℕ, zero, suc, ◌+◌, ◌<◌, inl, inr, Bool, true, false, ◌&&◌, ◌||◌, List, [], ◌∷◌, length, take, Option, Some, None}
use Rattle.std.proofs.Common.{refl, sym, ◌∙◌, ap, subst, arith, unwrap_or}
use Rattle.std.specs.Prelude.{slice_get, IsSomeAnd, MatchBool}
use Rattle.std.specs.Option.{option_or}
use Rattle.std.specs.List.{AllByRecursion, cons_option}
use Rattle.std.proofs.lemmas.List.Elements.{filter_map-append}
use Rattle.pc_word.specs.Row.{Row, Then, Either, At_leaf, items_of}
use Rattle.pc_word.specs.Items.{dest_of}
use Rattle.pc_word.proofs.Truth.{decide_le}
use Rattle.pc_word.proofs.Lists.{all_both}
use Rattle.pc_window.specs.Names.{named}
use Rattle.pc_window.specs.Rebasing.{is_in}
use Rattle.pc_automaton.specs.declared.automaton.AutomatonLeaf.{AutomatonLeaf}
use Rattle.pc_automaton.specs.Automaton.{AutomatonState, names_written}
use Rattle.pc_assign.specs.Uses.{row_uses}
use Rattle.pc_assign.specs.Assigned.{state_names, is_register, one_has, used_has, IsLeast, IsParameterChoice, passed_at, ParametersByRule, row_passes}
use Rattle.pc_assign.specs.Assigned.{states_pass, passed_to, Parameters, IsDefinitionChoice, First_choice, Second_choice, DestByRule, RowByRule, StateByRule}
use Rattle.pc_assign.specs.Assigned.{AreByRule, IsAssigned}
use Rattle.pc_assign.specs.Pressure.{few_scratch, LowBefore, IsFirstAbove, IsScratch, Last_of_few, Last_of_most}
use Rattle.pc_assign.specs.Apart.{OnlyOne}
use Rattle.pc_assign.proofs.Apartness.{all_in, all_of_each, short, past}

-- ---- choices

least_unique : (scratch : ℕ) (f : ℕ → Bool) (r s : ℕ) → IsLeast scratch f r → IsLeast scratch f s → r ≡ s
least_unique scratch f r s h k = elim (decide_le s r) [
  | inl up ↦ elim (decide_le r s) [
    | inl down ↦ omega arith
    | inr less ↦ let taken : f s ≡ true = h.least s less in let free : f s ≡ false = k.free in absurd (cc)
  ]
  | inr less ↦ let taken : f r ≡ true = k.least r less in let free : f r ≡ false = h.free in absurd (cc)
]

choice_unique : (scratch : ℕ) (t n : ℕ → Bool) (r s : ℕ) → IsDefinitionChoice scratch t n r → IsDefinitionChoice scratch t n s → r ≡ s
choice_unique scratch t n r s (First_choice h) (First_choice k) = least_unique scratch t r s h k
choice_unique scratch t n r s (First_choice h)
    (Second_choice full k) = let taken : t r ≡ true = full r h.below in let free : t r ≡ false = h.free in absurd (cc)
choice_unique scratch t n r s (Second_choice full h)
    (First_choice k) = let taken : t s ≡ true = full s k.below in let free : t s ≡ false = k.free in absurd (cc)
choice_unique scratch t n r s (Second_choice full h) (Second_choice also k) = least_unique scratch n r s h k

parameter_unique : (scratch : ℕ) (taken : ℕ → Bool) (passed : Option ℕ) (r s : ℕ) → IsParameterChoice scratch taken passed r → IsParameterChoice scratch taken passed s → r ≡ s
parameter_unique scratch taken None r s h k = least_unique scratch taken r s h k
parameter_unique scratch taken (Some passed) r s h k = by (taken passed) h k
  where
    by : (b : Bool) → MatchBool b (IsLeast scratch taken r) (r ≡ passed) → MatchBool b (IsLeast scratch taken s) (s ≡ passed) → r ≡ s
    by true h k = least_unique scratch taken r s h k
    by false h k = h ∙ sym k

some_unique : (P : ℕ → Type 0) (o p : Option ℕ) → ((r s : ℕ) → P r → P s → r ≡ s) → IsSomeAnd o P → IsSomeAnd p P → o ≡ p
some_unique P None p one h k = absurd h
some_unique P (Some r) None one h k = absurd k
some_unique P (Some r) (Some s) one h k = ap Some (one r s h k)

-- ---- names on which two agree

module _ (scratch : ℕ) (of other : ℕ → Option ℕ) where
  abbrev pub Agree : List ℕ → Type 0
  Agree names = AllByRecursion (λ name. of name ≡ other name) names

  one_has_same : (names : List ℕ) (q : ℕ) → Agree names → one_has of names q ≡ one_has other names q
  one_has_same [] q h = refl
  one_has_same (x ∷ names) q h = (λ i. is_register q (h.0 i) || one_has_same names q h.1 i)

  used_has_same : (used : ℕ → Bool) (names : List ℕ) (q : ℕ) → Agree names → used_has used of names q ≡ used_has used other names q
  used_has_same used [] q h = refl
  used_has_same used (x ∷ names) q h = (λ i. (used x && is_register q (h.0 i)) || used_has_same used names q h.1 i)

  dest_same : (parameters above : List ℕ) (rest : Row AutomatonLeaf) (dest : ℕ) → Agree parameters → Agree above
      → DestByRule scratch of parameters above rest (Some dest) → DestByRule scratch other parameters above rest (Some dest) → of dest ≡ other dest
  dest_same parameters above rest dest a b h k =
      let choice = IsDefinitionChoice scratch (λ q. one_has of parameters q || one_has of above q)
      (λ q. used_has (row_uses rest) of parameters q || one_has of above q) in
      some_unique choice (of dest) (other dest)
      (choice_unique scratch (λ q. one_has of parameters q || one_has of above q) (λ q. used_has (row_uses rest) of parameters q || one_has of above q)) h
      (subst (λ (t : ℕ → Bool). IsSomeAnd (other dest) (IsDefinitionChoice scratch t (λ q. used_has (row_uses rest) of parameters q || one_has of above q)))
      (λ i q. sym (one_has_same parameters q a) i || sym (one_has_same above q b) i)
      (subst (λ (n : ℕ → Bool). IsSomeAnd (other dest) (IsDefinitionChoice scratch (λ q. one_has other parameters q || one_has other above q) n))
      (λ i q. sym (used_has_same (row_uses rest) parameters q a) i || sym (one_has_same above q b) i) k))

  row_same : (parameters above : List ℕ) (row : Row AutomatonLeaf) → Agree parameters → Agree above → RowByRule scratch of parameters above row
      → RowByRule scratch other parameters above row
      → Agree (names_written row)
  row_same parameters above (Then item rest) a b h k = by (dest_of item) h.0 k.0
      (λ more. row_same parameters (named (dest_of item) above) rest a more h.1 k.1)
    where
      by : (found : Option ℕ) → DestByRule scratch of parameters above rest found → DestByRule scratch other parameters above rest found
          → (Agree (named found above) → Agree (names_written rest)) → Agree (cons_option found (names_written rest))
      by None x y later = later b
      by (Some dest) x y later = let same = dest_same parameters above rest dest a b x y in (same, later (same, b))
  row_same parameters above (Either on on_yes on_no) a b h k =
      subst (λ (names : List ℕ). Agree names) (sym (filter_map-append dest_of (items_of on_yes) (items_of on_no)))
      (all_both (λ name. of name ≡ other name) (names_written on_yes) (names_written on_no) (row_same parameters above on_yes a b h.0 k.0)
      (row_same parameters above on_no a b h.1 k.1))
  row_same parameters above (At_leaf leaf) a b h k = tt

  -- parameters, each after those before it
  take_get : (xs : List ℕ) (n at x : ℕ) → slice_get (take n xs) at ≡ Some x → (at < n) × (slice_get xs at ≡ Some x)
  take_get xs zero at x e = absurd (cc)
  take_get [] (suc n) at x e = absurd (cc)
  take_get (y ∷ xs) (suc n) zero x e = (omega arith, e)
  take_get (y ∷ xs) (suc n) (suc at) x e = let more = take_get xs n at x e in (omega (arith, more.0), more.1)

  parameters_same : (passed : List (Option ℕ)) (parameters : List ℕ) → ParametersByRule scratch of passed parameters
      → ParametersByRule scratch other passed parameters
      → (n at x : ℕ) → at < n → slice_get parameters at ≡ Some x → of x ≡ other x
  parameters_same passed parameters h k zero at x less here = absurd (omega arith)
  parameters_same passed parameters h k (suc n) at x less here =
      let before : Agree (take at parameters) = all_of_each (λ name. of name ≡ other name) (take at parameters)
      (λ i y e. let it = take_get parameters at i y e in parameters_same passed parameters h k n i y (omega (arith, it.0)) it.1) in
      some_unique (IsParameterChoice scratch (one_has of (take at parameters)) (passed_at (slice_get passed at))) (of x) (other x)
      (parameter_unique scratch (one_has of (take at parameters)) (passed_at (slice_get passed at))) (h at x here)
      (subst (λ (t : ℕ → Bool). IsSomeAnd (other x) (IsParameterChoice scratch t (passed_at (slice_get passed at))))
      (λ i q. sym (one_has_same (take at parameters) q before) i) (k at x here))

  first_same : (xs : List ℕ) → AllByRecursion (λ x. of x ≡ Some x) xs → AllByRecursion (λ x. other x ≡ Some x) xs → Agree xs
  first_same [] h k = tt
  first_same (x ∷ xs) h k = (h.0 ∙ sym k.0, first_same xs h.1 k.1)

  inside : (xs : List ℕ) (at x : ℕ) → slice_get xs at ≡ Some x → at < length xs
  inside [] at x e = absurd (cc)
  inside (y ∷ xs) zero x e = omega arith
  inside (y ∷ xs) (suc at) x e = omega (arith, inside xs at x e)

  all_parameters : (number : ℕ) (passed : List (Option ℕ)) (parameters : List ℕ) → Parameters scratch number of passed parameters
      → Parameters scratch number other passed parameters → Agree parameters
  all_parameters zero passed parameters h k = first_same parameters h k
  all_parameters (suc n) passed parameters h k =
      all_of_each (λ name. of name ≡ other name) parameters
      (λ at x e. parameters_same passed parameters h k (length parameters) at x (inside parameters at x e) e)

  -- a state
  state_same : (number : ℕ) (passed : List (Option ℕ)) (state : AutomatonState) → StateByRule scratch number passed of state
      → StateByRule scratch number passed other state
      → (name : ℕ) → of name ≡ other name
  state_same number passed state h k name = by (is_in name (state_names state)) refl
    where
      by : (b : Bool) → is_in name (state_names state) ≡ b → of name ≡ other name
      by true is =
          let parameters = all_parameters number passed state.parameters h.parameters k.parameters in
          all_in (λ x. of x ≡ other x) (state_names state) name
          (all_both (λ x. of x ≡ other x) state.parameters (names_written state.row) parameters
          (row_same state.parameters [] state.row parameters tt h.row k.row)) is
      by false is = h.others name is ∙ sym (k.others name is)

-- ---- all states

-- no state's pressure is above few registers, or that of a first one is
not_both : {number live : ℕ} (states : List AutomatonState) → LowBefore few_scratch states (length states) → IsFirstAbove few_scratch states number live → ⊥
not_both {number} states low first =
    let small = low number first.state (within states number first.state first.there) first.there in
    let live = first.is_live in
    let high = first.high in
    omega (arith, small, live, high)
  where
    within : (xs : List AutomatonState) (at : ℕ) (x : AutomatonState) → slice_get xs at ≡ Some x → at < length xs
    within [] at x e = absurd (cc)
    within (y ∷ xs) zero x e = omega arith
    within (y ∷ xs) (suc at) x e = omega (arith, within xs at x e)

-- what is left for moves is the same
scratch_unique : (states : List AutomatonState) (scratch other : ℕ) → IsScratch states scratch → IsScratch states other → scratch ≡ other
scratch_unique states scratch other (Last_of_few is low) (Last_of_few also too) = is ∙ sym also
scratch_unique states scratch other (Last_of_few is low) (Last_of_most also first) = absurd (not_both states low first)
scratch_unique states scratch other (Last_of_most is first) (Last_of_few also low) = absurd (not_both states low first)
scratch_unique states scratch other (Last_of_most is first) (Last_of_most also other_first) = is ∙ sym also

module _ (states : List AutomatonState) (scratch : ℕ) (R S : ℕ → ℕ → Option ℕ) (given : AreByRule scratch states R) (also : AreByRule scratch states S) where
  passes_same : (to from : ℕ) (xs : List AutomatonState) → ((number : ℕ) → number < from + length xs → R number ≡ S number)
      → states_pass R to from xs ≡ states_pass S to from xs
  passes_same to from [] h = refl
  passes_same to from (x ∷ xs) h =
      let here : R from ≡ S from = h from (omega arith) in
      let rest = passes_same to (suc from) xs (λ number less. h number (omega arith)) in
      (λ i. option_or (row_passes (here i) to x.row) (rest i))

  same_before : (n number : ℕ) → number < n → (name : ℕ) → R number name ≡ S number name
  same_before zero number less name = absurd (omega arith)
  same_before (suc n) number less name = by (slice_get states number) refl (λ k small x. same_before n k (omega arith) x)
    where
      by : (o : Option AutomatonState) → slice_get states number ≡ o → ((k : ℕ) → k < number → (x : ℕ) → R k x ≡ S k x)
          → R number name ≡ S number name
      by None out before = given.none number name (past states number out) ∙ sym (also.none number name (past states number out))
      by (Some state) here before =
          let passed : passed_to states R number ≡ passed_to states S number =
          ap (λ (o : Option (List (Option ℕ))). unwrap_or o [])
          (passes_same number 0 (take number states) (λ k small. λ i x. before k (omega (arith, short states number)) x i)) in
          state_same scratch (R number) (S number) number (passed_to states R number) state (given.each number state here)
          (subst (λ (xs : List (Option ℕ)). StateByRule scratch number xs (S number) state) (sym passed) (also.each number state here)) name

pub only_one : OnlyOne
only_one states registers others given also =
    let same = scratch_unique states registers.scratch others.scratch given.left also.left in
    let alike = subst (λ (scratch : ℕ). AreByRule scratch states others.of) (sym same) also.rule in
    let of = same_before states registers.scratch registers.of others.of given.rule alike in
    λ i. record { of = λ number name. of (suc number) number (omega arith) name i; scratch = same i }
