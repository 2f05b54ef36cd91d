-- Laws of forms. Each is the contract of a function of laws.rt, which does nothing, or a clause of a call.
use Rattle.std.specs.Prelude.{◌≡◌, ◌≢◌, ℕ, ℤ, ◌+ℤ◌, ◌*ℤ◌}
use Rattle.std.specs.Int.{w32, int_wrap}
use Rattle.pc_word.specs.declared.item.OpCode.{OpCode}
use Rattle.pc_word.specs.Word.{word_apply}
use Rattle.pc_linear.specs.Form.{Form, IsNormal, form_value, ◌≈◌, Means, factor_of}
use Rattle.pc_linear.specs.Combine.{plus, variable_form}
use Rattle.pc_linear.specs.Equality.{NeverEqual}

-- ---- what a combined form means

-- for all values of the variables a form's value is the operator's of the values of two forms
abbrev pub HasValueOf : OpCode → Form → Form → Form → Type 0
HasValueOf op f g h = (σ : ℕ → ℤ) → form_value σ h ≡ word_apply op (form_value σ f) (form_value σ g)

-- for all values of the variables, whatever numbers two forms mean, a form means the operator's result of these
abbrev pub MeansResultOf : OpCode → Form → Form → Form → Type 0
MeansResultOf op f g h = (σ : ℕ → ℤ) (a b : ℤ) → Means σ f a → Means σ g b → Means σ h (word_apply op a b)

-- ---- sums are term by term

-- a variable's factor in a sum is the sum of its factors, as a word
abbrev pub SumsAddFactors : Type 0
SumsAddFactors = (f g : Form) (number : ℤ) (x : ℕ) → IsNormal f → factor_of (plus f number g).terms x ≡ int_wrap w32 (factor_of f.terms x +ℤ (number *ℤ factor_of g.terms x))

-- a sum is in normal form
abbrev pub SumsAreNormal : Type 0
SumsAreNormal = (f g : Form) (number : ℤ) → IsNormal f → IsNormal (plus f number g)

-- a sum in normal form is known by its factors and its constant
abbrev pub FactorsTellTheForm : Type 0
FactorsTellTheForm = (f g : Form) → IsNormal f → IsNormal g → ((x : ℕ) → factor_of f.terms x ≡ factor_of g.terms x) → f.constant ≡ g.constant → f ≡ g

-- ---- values

-- a form means its value
abbrev pub FormsMeanTheirValues : Type 0
FormsMeanTheirValues = (σ : ℕ → ℤ) (f : Form) → IsNormal f → Means σ f (form_value σ f)

-- the form of a variable means the variable's value
abbrev pub VariablesMeanTheirValues : Type 0
VariablesMeanTheirValues = (σ : ℕ → ℤ) (v : ℕ) → Means σ (variable_form v) (σ v)

-- a number that a form means is its value modulo 2^32
abbrev pub WhatIsMeantIsTheValue : Type 0
WhatIsMeantIsTheValue = (σ : ℕ → ℤ) (f : Form) (number : ℤ) → Means σ f number → number ≈ form_value σ f

-- values of variables that are equal modulo 2^32 give a form one value
abbrev pub ValuesCountAsWords : Type 0
ValuesCountAsWords = (σ τ : ℕ → ℤ) (f : Form) → ((v : ℕ) → σ v ≈ τ v) → form_value σ f ≡ form_value τ f

-- numbers that two forms mean under the same values differ, where the forms are never equal
abbrev pub NeverEqualFormsDiffer : Type 0
NeverEqualFormsDiffer = (f g : Form) → NeverEqual f g → (σ : ℕ → ℤ) (a b : ℤ) → Means σ f a → Means σ g b → a ≢ b
