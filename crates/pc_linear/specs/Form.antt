-- Linear forms modulo 2^32: a constant, and terms, each a factor times a variable.
use Rattle.std.specs.Prelude.{◌≡◌, ◌≢◌, ◌≤◌, ℕ, suc, ℤ, pos, ◌+ℤ◌, ◌*ℤ◌, if◌then◌else◌, nat_eq, List, [], ◌∷◌, length, map}
use Rattle.std.specs.List.{AllByRecursion}
use Rattle.std.specs.Int.{w32, int_wrap}
use Rattle.pc_word.specs.Word.{IsWord}
use Rattle.pc_linear.specs.declared.term.Term.{Term}

-- a sum of terms and a constant
pub record Form : Type 0 where
  pub terms : List Term
  pub constant : ℤ

-- ---- the forms that are kept

-- how many terms a form may have
abbrev pub most_terms : ℕ
most_terms = 4

-- the variables of terms rise strictly, from a number on
abbrev pub Rising : ℕ → List Term → Type 0
Rising least [] = Unit {0}
Rising least (t ∷ ts) = (least ≤ t.variable) × Rising (suc t.variable) ts

-- a term's factor is a word other than 0
pub record HasFactor (term : Term) : Type 0 where
  pub word : IsWord term.factor
  pub nonzero : term.factor ≢ pos 0

-- a sum in normal form: its variables rise, its factors are words other than 0, and its constant is a word
pub record IsNormal (f : Form) : Type 0 where
  pub rising : Rising 0 f.terms
  pub factors : AllByRecursion HasFactor f.terms
  pub constant : IsWord f.constant

-- a form, as every one is kept: a sum in normal form, with at most four terms
pub record IsForm (f : Form) : Type 0 where
  pub normal : IsNormal f
  pub few : length f.terms ≤ most_terms

-- ---- other variables

-- a term in another variable
abbrev pub term_in_variable : (ℕ → ℕ) → Term → Term
term_in_variable number term = record { variable = number term.variable; factor = term.factor }

-- terms in other variables
abbrev pub terms_in_variables : (ℕ → ℕ) → List Term → List Term
terms_in_variables number terms = map (term_in_variable number) terms

-- a form in other variables
abbrev pub in_variables : (ℕ → ℕ) → Form → Form
in_variables number form = record { terms = terms_in_variables number form.terms; constant = form.constant }

-- ---- what a form means

-- the sum of terms, where σ gives each variable its value
abbrev pub sum_of : (ℕ → ℤ) → List Term → ℤ
sum_of σ [] = pos 0
sum_of σ (t ∷ ts) = (t.factor *ℤ σ t.variable) +ℤ sum_of σ ts

-- the form's number
abbrev pub form_number : (ℕ → ℤ) → Form → ℤ
form_number σ f = sum_of σ f.terms +ℤ f.constant

-- the form's value: the word of its number
abbrev pub form_value : (ℕ → ℤ) → Form → ℤ
form_value σ f = int_wrap w32 (form_number σ f)

infix 20 ◌≈◌
-- two numbers are equal modulo 2^32: they are one word
abbrev pub ◌≈◌ : ℤ → ℤ → Type 0
a ≈ b = int_wrap w32 a ≡ int_wrap w32 b

-- a number is what these terms and this constant say: exactly the constant where there is no term, and else their sum modulo 2^32
abbrev pub says : (ℕ → ℤ) → List Term → ℤ → ℤ → Type 0
says σ [] constant number = number ≡ constant
says σ (t ∷ ts) constant number = number ≈ (sum_of σ (t ∷ ts) +ℤ constant)

-- under σ a form means a number
abbrev pub Means : (ℕ → ℤ) → Form → ℤ → Type 0
Means σ f number = says σ f.terms f.constant number

-- ---- factors

-- the factor of a variable in a term
abbrev pub factor_in : Term → ℕ → ℤ
factor_in term x = if nat_eq x term.variable then term.factor else pos 0

-- the factor of a variable in terms: 0 where it stands in none
abbrev pub factor_of : List Term → ℕ → ℤ
factor_of [] x = pos 0
factor_of (t ∷ ts) x = factor_in t x +ℤ factor_of ts x
