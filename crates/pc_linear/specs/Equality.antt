-- When forms are equal: never, sometimes, always.
use Rattle.std.specs.Prelude.{◌≡◌, ◌≢◌, ◌≤◌, ◌⊎◌, ℕ, ℤ, pos, ◌*ℤ◌, ◌^◌, []}
use Rattle.std.specs.List.{AllByRecursion}
use Rattle.pc_word.specs.Word.{IsWord}
use Rattle.pc_linear.specs.declared.term.Term.{Term}
use Rattle.pc_linear.specs.Form.{Form, form_value}

-- ---- by the values of the variables

-- no values of the variables make the forms equal
abbrev pub NeverEqual : Form → Form → Type 0
NeverEqual f g = (σ : ℕ → ℤ) → form_value σ f ≢ form_value σ g

-- some words as values of the variables make the forms equal
pub record SometimesEqual (f g : Form) : Type 0 where
  pub values : ℕ → ℤ
  pub words : (variable : ℕ) → IsWord (values variable)
  pub equal : form_value values f ≡ form_value values g

-- all values of the variables make the forms equal
abbrev pub AlwaysEqual : Form → Form → Type 0
AlwaysEqual f g = (σ : ℕ → ℤ) → form_value σ f ≡ form_value σ g

-- ---- by the difference of the forms

-- 2^power divides a number
pub record Divides (power : ℕ) (number : ℤ) : Type 0 where
  pub quotient : ℤ
  pub is : number ≡ quotient *ℤ pos (2 ^ power)

-- some power of two, from 2^1 to 2^32, divides each factor and not the constant
pub record PowerTells (d : Form) : Type 0 where
  pub power : ℕ
  pub least : 1 ≤ power
  pub most : power ≤ 32
  pub factors : AllByRecursion (λ (term : Term). Divides power term.factor) d.terms
  pub constant : Divides power d.constant → ⊥

-- a difference is never 0: a power of two tells, or there is no factor and the constant is not 0
abbrev pub IsNeverZero : Form → Type 0
IsNeverZero d = PowerTells d ⊎ ((d.terms ≡ []) × (d.constant ≢ pos 0))

-- a difference is always 0: there is no factor, and the constant is 0
abbrev pub IsAlwaysZero : Form → Type 0
IsAlwaysZero d = (d.terms ≡ []) × (d.constant ≡ pos 0)
