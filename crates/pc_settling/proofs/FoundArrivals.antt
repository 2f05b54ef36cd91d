-- What is found to arrive at a claim arrives there.
use Rattle.std.proofs.Common.{◌<◌, ◌≤◌, ◌+◌, suc, min, length, get_or, slice_index_or, drop-cons, drop_of_length-le, arith}
use Rattle.std.proofs.Common.{◌≡◌, ◌↔◌, inl, inr, ℕ, Bool, true, false, List, [], ◌∷◌, drop, Option, Some, None, refl, sym, ◌∙◌, ap, subst}
use Rattle.std.specs.Prelude.{if◌then◌else◌, not, nat_eq, ◌&&◌, ◌||◌}
use Rattle.std.specs.List.{list_all}
use Rattle.std.proofs.lemmas.Bool.{eqb-true, eq-eqb}
use Rattle.pc_word.specs.declared.item.Operand.{Operand}
use Rattle.pc_word.specs.declared.item.Operand.TheVariants.{Name, Lit}
use Rattle.pc_word.proofs.Truth.{and_true, decide_le}
use Rattle.pc_window.specs.WindowRun.{Window}
use Rattle.pc_canon.specs.Pairs.{Pair, corresponds, ones, OperandsAlike}
use Rattle.pc_canon.specs.Canonical.{side_by_side, parameter_pairs}
use Rattle.pc_canon.specs.Key.{key_of}
use Rattle.pc_canon.proofs.Keys.{keys_pair}
use Rattle.pc_canon.proofs.Membership.{has, Distinct, distinct_from}
use Rattle.pc_certified.specs.Facts.{Fact, OperandsMatch}
use Rattle.pc_certified.specs.Claims.{shifted_by}
use Rattle.pc_matching.proofs.Tests.{operands_of_test}
use Rattle.pc_matching.proofs.Elements.{In, in_of}
use Rattle.pc_settling.specs.Arrives.{name_of, paired_name, paired, has_value, holds_here, Arrives}
use Rattle.pc_settling.specs.Laws.{FoundArrivals}

-- ---- names that correspond

-- what a name is paired with is among the ones
paired_among : (pairs : List Pair) (x y : ℕ) → paired_name pairs y ≡ Some x → has (ones pairs) x ≡ true
paired_among [] x y h = absurd (cc)
paired_among (pair ∷ pairs) x y h = choose (nat_eq pair.other y) h (paired_among pairs x y)
  where
    choose : (b : Bool) → (if b then Some pair.one else paired_name pairs y) ≡ Some x → (paired_name pairs y ≡ Some x → has (ones pairs) x ≡ true)
        → (nat_eq pair.one x || has (ones pairs) x) ≡ true
    choose true e next = let same : pair.one ≡ x = cc in first (nat_eq pair.one x) (has (ones pairs) x) (eq-eqb pair.one x same)
      where
        first : (a b : Bool) → a ≡ true → (a || b) ≡ true
        first true b h = refl
        first false b h = absurd (cc)
    choose false e next = second (nat_eq pair.one x) (has (ones pairs) x) (next e)
      where
        second : (a b : Bool) → b ≡ true → (a || b) ≡ true
        second true b h = refl
        second false b h = h

-- names that are paired correspond, where no name is paired twice
pub paired_corresponds : (pairs : List Pair) (x y : ℕ) → Distinct (ones pairs) → paired_name pairs y ≡ Some x → corresponds pairs x y ≡ true
paired_corresponds [] x y distinct h = absurd (cc)
paired_corresponds (pair ∷ pairs) x y distinct h =
    choose (nat_eq pair.one x) refl (nat_eq pair.other y) refl (paired_corresponds pairs x y distinct.1) h
  where
    twice : nat_eq pair.one x ≡ true → paired_name pairs y ≡ Some x → ⊥
    twice e k =
        let there = paired_among pairs x y k in
        let same = eqb-true pair.one x e in
        let none : has (ones pairs) x ≡ false = subst (λ (z : ℕ). has (ones pairs) z ≡ false) same distinct.0 in cc

    one_is : Some pair.one ≡ Some x → nat_eq pair.one x ≡ true
    one_is e = let same : pair.one ≡ x = cc in eq-eqb pair.one x same

    choose : (b : Bool) → nat_eq pair.one x ≡ b → (c : Bool) → nat_eq pair.other y ≡ c → (paired_name pairs y ≡ Some x → corresponds pairs x y ≡ true)
        → (if c then Some pair.one else paired_name pairs y) ≡ Some x → (if b then c else (not c && corresponds pairs x y)) ≡ true
    choose true e true d next k = refl
    choose true e false d next k = absurd (twice e k)
    choose false e true d next k = let one = one_is k in absurd (cc)
    choose false e false d next k = next k

-- ---- facts that hold here

all_in : {X : Type 0} (p : X → Bool) (xs : List X) (x : X) → list_all p xs ≡ true → In xs x → p x ≡ true
all_in p [] x h k = absurd k
all_in p (y ∷ ys) x h (inl e) = sym (ap p e) ∙ (and_true (p y) (list_all p ys) h).0
all_in p (y ∷ ys) x h (inr k) = all_in p ys x (and_true (p y) (list_all p ys) h).1 k

module _ (pairs : List Pair) (distinct : Distinct (ones pairs)) (held : List Fact) where
  -- an operand that is alike, and has the source's value
  abbrev FindsOperand : Operand → Operand → Type 0
  FindsOperand source operand = (here : Operand) × OperandsAlike pairs here operand × OperandsMatch held source here

  name_finds : (source : Operand) (y : ℕ) (found : Option ℕ) → paired_name pairs y ≡ found → has_value held source (name_of found) ≡ true → FindsOperand source (Name y)
  name_finds source y (Some x) is h = (Name x, paired_corresponds pairs x y distinct is, operands_of_test held source (Name x) h)
  name_finds source y None is h = absurd (cc)

  pub fact_finds : (source operand : Operand) → has_value held source (paired pairs operand) ≡ true → FindsOperand source operand
  fact_finds source (Lit v) h = (Lit v, refl, operands_of_test held source (Lit v) h)
  fact_finds source (Name y) h = name_finds source y (paired_name pairs y) refl h

pub found_arrivals : FoundArrivals
found_arrivals claim w held a =
    let shifted = keys_pair w claim.window a.key in
    let pairs = parameter_pairs w claim.window in
    let distinct = distinct_from (ones pairs) shifted.1.params_one_to_one.ones_differ in
    shifted_by pairs shifted (λ fact there.
    fact_finds pairs distinct held fact.source fact.operand
    (all_in (holds_here pairs held) claim.facts fact a.facts (in_of claim.facts fact there)))

-- ---- in memory

side_by_none : (xs : List ℕ) → side_by_side xs [] ≡ []
side_by_none [] = refl
side_by_none (x ∷ xs) = refl

-- where the pair at a place has another name, it is among those that follow
pub next_pair : (xs ys : List ℕ) (at x : ℕ) → at < length xs → at < length ys → nat_eq (slice_index_or ys at 0) x ≡ false
    → paired_name (side_by_side (drop at xs) (drop at ys)) x ≡ paired_name (side_by_side (drop (at + 1) xs) (drop (at + 1) ys)) x
next_pair xs ys at x below below' differs =
    ap (λ (l : List ℕ). paired_name (side_by_side l (drop at ys)) x) (drop-cons xs at 0 below)
    ∙ ap (λ (l : List ℕ). paired_name (side_by_side (get_or xs at 0 ∷ drop (suc at) xs) l) x) (drop-cons ys at 0 below')
    ∙ choose (nat_eq (get_or ys at 0) x) differs
    ∙ (λ i. paired_name (side_by_side (drop (same i) xs) (drop (same i) ys)) x)
  where
    same : suc at ≡ at + 1
    same = omega arith

    choose : (b : Bool) → b ≡ false
        → (if b then Some (get_or xs at 0) else paired_name (side_by_side (drop (suc at) xs) (drop (suc at) ys)) x)
        ≡ paired_name (side_by_side (drop (suc at) xs) (drop (suc at) ys)) x
    choose false e = refl
    choose true e = absurd (cc)

-- there are no more pairs behind the shorter list
pub no_pair : (xs ys : List ℕ) (at x : ℕ) → min (length xs) (length ys) ≤ at → paired_name (side_by_side (drop at xs) (drop at ys)) x ≡ None
no_pair xs ys at x above = elim (decide_le (length xs) at) [
  | inl le ↦ ap (λ (l : List ℕ). paired_name (side_by_side l (drop at ys)) x) (drop_of_length-le xs le)
  | inr less ↦
      let le : length ys ≤ at = omega (arith, above, less) in
      ap (λ (l : List ℕ). paired_name (side_by_side (drop at xs) l) x) (drop_of_length-le ys le)
      ∙ ap (λ (l : List Pair). paired_name l x) (side_by_none (drop at xs))
]

pub ruleset pairs = (next_pair, no_pair)

-- keys that are not equal do not arrive
pub arrives_not : (w v : Window) (held facts : List Fact) → (key_of w ≡ key_of v → ⊥) → (false ≡ true) ↔ Arrives w held v facts
arrives_not w v held facts differ = (λ e. absurd (cc), λ a. absurd (differ a.key))

-- with equal keys, it is the facts that matter
pub arrives_if : (w v : Window) (held facts : List Fact) (holds : Bool) → key_of w ≡ key_of v → holds ≡ list_all (holds_here (parameter_pairs w v) held) facts
    → (holds ≡ true) ↔ Arrives w held v facts
arrives_if w v held facts holds key is = (λ e. record { key = key; facts = sym is ∙ e }, λ a. is ∙ a.facts)

pub ruleset arrivals = (arrives_not, arrives_if)
