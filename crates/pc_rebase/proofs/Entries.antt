-- What a variable stands for: itself, or a base with a constant.
use Rattle.std.proofs.Common.{◌≡◌, ◌≢◌, ◌⊎◌, inl, inr, ℕ, zero, suc, ◌<◌, ◌≤◌, List, [], ◌∷◌, Option, Some, length, refl, sym, ◌∙◌, ap, subst, arith}
use Rattle.std.specs.Prelude.{ℤ, pos, negsuc, ◌+ℤ◌, ◌-ℤ◌, ◌*ℤ◌, Bool, true, false, if◌then◌else◌, nat_eq, slice_get, slice_set}
use Rattle.std.specs.Int.{w32, int_wrap}
use Rattle.std.proofs.lemmas.Int.{ints, SFits-int_wrap}
use Rattle.std.proofs.lemmas.Bool.Decides.{eqb_tells}
use lib.IntN.{+ℤ_idl}
use Rattle.pc_word.specs.Word.{IsWord, word_sub}
use Rattle.pc_linear.specs.Form.{Form, IsNormal, factor_of}
use Rattle.pc_linear.specs.Combine.{plus, variable_form}
use Rattle.pc_linear.proofs.Words.{one_times, wrap_same}
use Rattle.pc_linear.proofs.Normal.{plus-factor, same_form}
use Rattle.pc_window.specs.Rebasing.{rewritten}
use Rattle.pc_rebase.specs.declared.standing.Standing.{Standing}
use Rattle.pc_rebase.specs.models.Standing.{shifted, standing_or, stands_in}
use Rattle.pc_rebase.proofs.Substituting.{rewritten-normal, rewritten-factor, rewritten-constant}

-- ---- a variable and a constant

shifted-normal : (v : ℕ) (c : ℤ) → IsWord c → IsNormal (shifted v c)
shifted-normal v c word = record {
  rising = (omega arith, tt);
  factors = (record { word = record { sfits = omega arith }; nonzero = λ e. omega (arith, ints) }, tt);
  constant = word;
}

factor_other : (v : ℕ) (c : ℤ) (x : ℕ) → x ≢ v → factor_of (shifted v c).terms x ≡ pos 0
factor_other v c x apart = by (eqb_tells x v)
  where
    by : ((nat_eq x v ≡ true) × (x ≡ v)) ⊎ ((nat_eq x v ≡ false) × (x ≢ v)) → factor_of (shifted v c).terms x ≡ pos 0
    by (inl same) = absurd (apart same.1)
    by (inr other) = ap (λ (b : Bool). (if b then pos 1 else pos 0) +ℤ pos 0) other.0

pub factor_own : (v : ℕ) (c : ℤ) (x : ℕ) → x ≡ v → factor_of (shifted v c).terms x ≡ pos 1
factor_own v c x is = ap (λ (b : Bool). (if b then pos 1 else pos 0) +ℤ pos 0) same
  where
    same : nat_eq x v ≡ true
    same = grind arith

pub less-word : (c : ℤ) → IsWord (word_sub (pos 0) c)
unfolding word_sub
less-word c = SFits-int_wrap w32 (pos 0 -ℤ c)

-- ---- a variable that is taken out of itself

module _ (x y : ℕ) (c : ℤ) (apart : x ≢ y) where
  abbrev less : Form
  less = plus (variable_form y) (negsuc 0) (shifted x c)

  less_factor : (z : ℕ) → factor_of less.terms z ≡ int_wrap w32 (factor_of (variable_form y).terms z +ℤ (negsuc 0 *ℤ factor_of (shifted x c).terms z))
  less_factor z = plus-factor (variable_form y) (negsuc 0) (shifted x c) z (shifted-normal y (pos 0) (record { sfits = omega arith }))

  -- its factors, by the factors of both variables there
  mixed : ℤ → ℤ → ℤ
  unfolding int_wrap
  mixed own new = int_wrap w32 (own +ℤ (pos 1 *ℤ int_wrap w32 (new +ℤ (negsuc 0 *ℤ own))))

  out_factor : (z : ℕ) → factor_of (rewritten x less (variable_form x)).terms z ≡ mixed (factor_of (variable_form x).terms z) (factor_of (variable_form y).terms z)
  unfolding mixed
  out_factor z =
      rewritten-factor x less (variable_form x) z (shifted-normal x (pos 0) (record { sfits = omega arith }))
      ∙ (λ i. int_wrap w32 (factor_of (variable_form x).terms z +ℤ (factor_own x (pos 0) x refl i *ℤ less_factor z i)))

  mixed_is : (z : ℕ) (k : ℤ) → mixed (factor_of (variable_form x).terms z) (factor_of (variable_form y).terms z) ≡ factor_of (shifted y k).terms z
  unfolding mixed int_wrap
  mixed_is z k = by (eqb_tells z x) (eqb_tells z y)
    where
      by : ((nat_eq z x ≡ true) × (z ≡ x)) ⊎ ((nat_eq z x ≡ false) × (z ≢ x)) → ((nat_eq z y ≡ true) × (z ≡ y)) ⊎ ((nat_eq z y ≡ false) × (z ≢ y))
          → mixed (factor_of (variable_form x).terms z) (factor_of (variable_form y).terms z) ≡ factor_of (shifted y k).terms z
      by (inl one) (inl other) = absurd (apart (sym one.1 ∙ other.1))
      by (inl one) (inr other) = (λ i. mixed (factor_own x (pos 0) z one.1 i) (factor_other y (pos 0) z other.1 i)) ∙ refl ∙ sym (factor_other y k z other.1)
      by (inr one) (inl other) = (λ i. mixed (factor_other x (pos 0) z one.1 i) (factor_own y (pos 0) z other.1 i)) ∙ refl ∙ sym (factor_own y k z other.1)
      by (inr one) (inr other) = (λ i. mixed (factor_other x (pos 0) z one.1 i) (factor_other y (pos 0) z other.1 i)) ∙ refl ∙ sym (factor_other y k z other.1)

  -- it is the new variable, less the constant
  pub taken_out : rewritten x less (variable_form x) ≡ shifted y (word_sub (pos 0) c)
  unfolding word_sub
  taken_out =
      same_form (rewritten x less (variable_form x)) (shifted y (int_wrap w32 (pos 0 -ℤ c)))
      (rewritten-normal x less (variable_form x) (shifted-normal x (pos 0) (record { sfits = omega arith })))
      (shifted-normal y (int_wrap w32 (pos 0 -ℤ c)) (SFits-int_wrap w32 (pos 0 -ℤ c)))
      (λ z. out_factor z ∙ mixed_is z (int_wrap w32 (pos 0 -ℤ c)))
      (rewritten-constant x less (variable_form x) (shifted-normal x (pos 0) (record { sfits = omega arith }))
      ∙ ap (λ (k : ℤ). int_wrap w32 (pos 0 +ℤ (k *ℤ less.constant))) (factor_own x (pos 0) x refl)
      ∙ ap (int_wrap w32) (+ℤ_idl (pos 1 *ℤ less.constant) ∙ one_times less.constant)
      ∙ wrap_same (pos 0 +ℤ (negsuc 0 *ℤ c)) ∙ ap (int_wrap w32) (turned c))
    where
      turned : (c : ℤ) → pos 0 +ℤ (negsuc 0 *ℤ c) ≡ pos 0 -ℤ c
      turned c = omega (arith, ints)

-- ---- what a variable stands for

-- a base, and a constant
pub record StandsForBase (first : ℕ) (f : Form) : Type 0 where
  pub base : ℕ
  pub constant : ℤ
  pub is : f ≡ shifted base constant
  pub word : IsWord constant
  pub later : first ≤ base

-- a variable stands for itself, or for a base with a constant; bases begin with a number
abbrev pub Stands : ℕ → ℕ → Form → Type 0
Stands first v f = (f ≡ variable_form v) ⊎ StandsForBase first f

pub stands-normal : (first v : ℕ) (f : Form) → Stands first v f → IsNormal f
stands-normal first v f (inl itself) = subst (λ (g : Form). IsNormal g) (sym itself) (shifted-normal v (pos 0) (record { sfits = omega arith }))
stands-normal first v f (inr other) = subst (λ (g : Form). IsNormal g) (sym other.is) (shifted-normal other.base other.constant other.word)

pub stands-one : (first v : ℕ) (f : Form) → Stands first v f → length f.terms ≤ 1
stands-one first v f (inl itself) = subst (λ (g : Form). length g.terms ≤ 1) (sym itself) (omega arith)
stands-one first v f (inr other) = subst (λ (g : Form). length g.terms ≤ 1) (sym other.is) (omega arith)

-- no other variable that is no base stands in it
pub stands-without : (first v x : ℕ) (f : Form) → x < first → x ≢ v → Stands first v f → factor_of f.terms x ≡ pos 0
stands-without first v x f old apart (inl itself) = ap (λ (g : Form). factor_of g.terms x) itself ∙ factor_other v (pos 0) x apart
stands-without first v x f old apart (inr other) =
    let le = other.later in
    let differs : x ≢ other.base = λ e. omega (arith, e) in
    ap (λ (g : Form). factor_of g.terms x) other.is ∙ factor_other other.base other.constant x differs

-- nor does the variable itself, where it stands for a base
pub base-without : (first x : ℕ) (f : Form) → x < first → StandsForBase first f → factor_of f.terms x ≡ pos 0
base-without first x f old other =
    let le = other.later in
    let differs : x ≢ other.base = λ e. omega (arith, e) in
    ap (λ (g : Form). factor_of g.terms x) other.is ∙ factor_other other.base other.constant x differs

-- ---- the entry of one variable, given anew

set_get : (stands : List Standing) (x : ℕ) (s : Standing) → x < length stands → slice_get (slice_set stands x s) x ≡ Some s
set_get [] x s there = absurd (omega arith)
set_get (u ∷ stands) zero s there = refl
set_get (u ∷ stands) (suc x) s there = set_get stands x s (omega arith)

set_other : (stands : List Standing) (x v : ℕ) (s : Standing) → v ≢ x → slice_get (slice_set stands x s) v ≡ slice_get stands v
set_other [] x v s apart = refl
set_other (u ∷ stands) zero zero s apart = absurd (apart refl)
set_other (u ∷ stands) zero (suc v) s apart = refl
set_other (u ∷ stands) (suc x) zero s apart = refl
set_other (u ∷ stands) (suc x) (suc v) s apart = set_other stands x v s (λ e. apart (ap suc e))

pub set_stands : (stands : List Standing) (x : ℕ) (s : Standing) → x < length stands → stands_in (slice_set stands x s) x ≡ shifted s.variable s.offset
set_stands stands x s there = ap (λ (o : Option Standing). standing_or x o) (set_get stands x s there)

pub set_stands-other : (stands : List Standing) (x v : ℕ) (s : Standing) → v ≢ x → stands_in (slice_set stands x s) v ≡ stands_in stands v
set_stands-other stands x v s apart = ap (λ (o : Option Standing). standing_or v o) (set_other stands x v s apart)
