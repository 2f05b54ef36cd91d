-- Lists of pairs: turned round, and what a number is paired with.
use Rattle.std.proofs.Common.{◌≡◌, ℕ, List, [], ◌∷◌, ◌⊎◌, inl, inr, refl, sym, ◌∙◌, ap, subst}
use Rattle.std.specs.Prelude.{Bool, true, false, not, ◌&&◌, ◌||◌, if◌then◌else◌, nat_eq, Option, Some, None}
use Rattle.std.proofs.lemmas.Bool.{eqb-true, eq-eqb}
use Rattle.pc_word.proofs.Truth.{or_made_false, or_first, or_second}
use Rattle.pc_canon.specs.Pairs.{Pair, corresponds, ones, others}
use Rattle.pc_canon.specs.Shift.{EachPair}
use Rattle.pc_canon.proofs.Membership.{has, Distinct}

-- ---- turned round

abbrev pub turned : List Pair → List Pair
turned [] = []
turned (pair ∷ pairs) = (record { one = pair.other; other = pair.one }) ∷ turned pairs

turned_test : (a b c : Bool) → (if b then a else (not a && c)) ≡ (if a then b else (not b && c))
turned_test true true c = refl
turned_test true false c = refl
turned_test false true c = refl
turned_test false false c = refl

pub turned_corresponds : (pairs : List Pair) (x y : ℕ) → corresponds (turned pairs) y x ≡ corresponds pairs x y
turned_corresponds [] x y = refl
turned_corresponds (pair ∷ pairs) x y =
    ap (λ (c : Bool). if nat_eq pair.other y then nat_eq pair.one x else (not (nat_eq pair.one x) && c)) (turned_corresponds pairs x y)
    ∙ turned_test (nat_eq pair.one x) (nat_eq pair.other y) (corresponds pairs x y)

-- ---- what a number is paired with

abbrev pub paired : List Pair → ℕ → Option ℕ
paired [] x = None
paired (pair ∷ pairs) x = if nat_eq pair.one x then Some pair.other else paired pairs x

-- a choice by a test that was equal
chosen : {A : Type 0} (b : Bool) (u v w : A) → (if b then u else v) ≡ w → ((b ≡ true) × (u ≡ w)) ⊎ ((b ≡ false) × (v ≡ w))
chosen true u v w h = inl (refl, h)
chosen false u v w h = inr (refl, h)

choose_true : {A : Type 0} (b : Bool) (u v : A) → b ≡ true → (if b then u else v) ≡ u
choose_true true u v h = refl
choose_true false u v h = absurd (cc)

choose_false : {A : Type 0} (b : Bool) (u v : A) → b ≡ false → (if b then u else v) ≡ v
choose_false true u v h = absurd (cc)
choose_false false u v h = refl

pub same_some : (a b : ℕ) → Some a ≡ Some b → a ≡ b
same_some a b e = cc

pub paired_none : (pairs : List Pair) (x : ℕ) → paired pairs x ≡ None → has (ones pairs) x ≡ false
paired_none [] x h = refl
paired_none (pair ∷ pairs) x h = elim (chosen (nat_eq pair.one x) (Some pair.other) (paired pairs x) None h) [
  | inl k ↦ absurd (cc)
  | inr k ↦ or_made_false (nat_eq pair.one x) (has (ones pairs) x) k.0 (paired_none pairs x k.1)
]

pub paired_has_one : (pairs : List Pair) (x z : ℕ) → paired pairs x ≡ Some z → has (ones pairs) x ≡ true
paired_has_one [] x z h = absurd (cc)
paired_has_one (pair ∷ pairs) x z h = elim (chosen (nat_eq pair.one x) (Some pair.other) (paired pairs x) (Some z) h) [
  | inl k ↦ or_first (nat_eq pair.one x) (has (ones pairs) x) k.0
  | inr k ↦ or_second (nat_eq pair.one x) (has (ones pairs) x) (paired_has_one pairs x z k.1)
]

paired_has_other : (pairs : List Pair) (x z : ℕ) → paired pairs x ≡ Some z → has (others pairs) z ≡ true
paired_has_other [] x z h = absurd (cc)
paired_has_other (pair ∷ pairs) x z h = elim (chosen (nat_eq pair.one x) (Some pair.other) (paired pairs x) (Some z) h) [
  | inl k ↦ or_first (nat_eq pair.other z) (has (others pairs) z) (eq-eqb pair.other z (same_some pair.other z k.1))
  | inr k ↦ or_second (nat_eq pair.other z) (has (others pairs) z) (paired_has_other pairs x z k.1)
]

pub paired_each : (pairs : List Pair) (P : ℕ → ℕ → Type 0) (x z : ℕ) → EachPair pairs P → paired pairs x ≡ Some z → P x z
paired_each [] P x z h p = absurd (cc)
paired_each (pair ∷ pairs) P x z h p = elim (chosen (nat_eq pair.one x) (Some pair.other) (paired pairs x) (Some z) p) [
  | inl k ↦ subst (λ (u : ℕ). P u z) (eqb-true pair.one x k.0) (subst (λ (v : ℕ). P pair.one v) (same_some pair.other z k.1) h.0)
  | inr k ↦ paired_each pairs P x z h.1 k.1
]

-- what is not twice in a list is not at another place
clash : (xs : List ℕ) (x y : ℕ) → has xs x ≡ false → has xs y ≡ true → x ≡ y → ⊥
clash xs x y p q e = let r : has xs y ≡ false = subst (λ (z : ℕ). has xs z ≡ false) e p in cc

-- one other is paired with one number alone
pub paired_once : (pairs : List Pair) (x y z : ℕ) → Distinct (others pairs) → paired pairs x ≡ Some z → paired pairs y ≡ Some z → x ≡ y
paired_once [] x y z d p q = absurd (cc)
paired_once (pair ∷ pairs) x y z d p q = elim (chosen (nat_eq pair.one x) (Some pair.other) (paired pairs x) (Some z) p) [
  | inl k ↦ elim (chosen (nat_eq pair.one y) (Some pair.other) (paired pairs y) (Some z) q) [
    | inl l ↦ sym (eqb-true pair.one x k.0) ∙ eqb-true pair.one y l.0
    | inr l ↦ absurd (clash (others pairs) pair.other z d.0 (paired_has_other pairs y z l.1) (same_some pair.other z k.1))
  ]
  | inr k ↦ elim (chosen (nat_eq pair.one y) (Some pair.other) (paired pairs y) (Some z) q) [
    | inl l ↦ absurd (clash (others pairs) pair.other z d.0 (paired_has_other pairs x z k.1) (same_some pair.other z l.1))
    | inr l ↦ paired_once pairs x y z d.1 k.1 l.1
  ]
]

-- each other is paired with a number
pub paired_back : (pairs : List Pair) (z : ℕ) → Distinct (ones pairs) → has (others pairs) z ≡ true → (y : ℕ) × (paired pairs y ≡ Some z)
paired_back [] z d h = absurd (cc)
paired_back (pair ∷ pairs) z d h = elim (either_true (nat_eq pair.other z) (has (others pairs) z) h) [
  | inl k ↦ (pair.one, choose_true (nat_eq pair.one pair.one) (Some pair.other) (paired pairs pair.one) (eq-eqb pair.one pair.one refl) ∙ ap (λ (n : ℕ). Some n) (eqb-true pair.other z k))
  | inr k ↦
      let y = paired_back pairs z d.1 k in (
        y.0,
        choose_false (nat_eq pair.one y.0) (Some pair.other) (paired pairs y.0)
            (no_clash (nat_eq pair.one y.0) (λ e. clash (ones pairs) pair.one y.0 d.0 (paired_has_one pairs y.0 z y.1) (eqb-true pair.one y.0 e))) ∙ y.1,
      )
]
  where
    either_true : (b c : Bool) → (b || c) ≡ true → (b ≡ true) ⊎ (c ≡ true)
    either_true true c h = inl refl
    either_true false c h = inr h

    no_clash : (b : Bool) → (b ≡ true → ⊥) → b ≡ false
    no_clash true h = absurd (h refl)
    no_clash false h = refl

outer : (b b' c : Bool) → (if b then b' else (not b' && c)) ≡ true → ((b ≡ true) × (b' ≡ true)) ⊎ ((b ≡ false) × (b' ≡ false) × (c ≡ true))
outer true true c h = inl (refl, refl)
outer true false c h = absurd (cc)
outer false true c h = absurd (cc)
outer false false c h = inr (refl, refl, h)

-- what corresponds is paired
pub corresponds_paired : (pairs : List Pair) (x y : ℕ) → corresponds pairs x y ≡ true → paired pairs x ≡ Some y
corresponds_paired [] x y h = absurd (cc)
corresponds_paired (pair ∷ pairs) x y h = elim (outer (nat_eq pair.one x) (nat_eq pair.other y) (corresponds pairs x y) h) [
  | inl k ↦ choose_true (nat_eq pair.one x) (Some pair.other) (paired pairs x) k.0 ∙ ap (λ (n : ℕ). Some n) (eqb-true pair.other y k.1)
  | inr k ↦ choose_false (nat_eq pair.one x) (Some pair.other) (paired pairs x) k.0 ∙ corresponds_paired pairs x y k.2
]
