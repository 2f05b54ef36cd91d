-- Tables of new numbers: of names, and of form variables.
use Rattle.std.specs.Prelude.{◌≡◌, ℕ, suc, ◌+◌, ◌<◌, ◌≤◌, Bool, true, if◌then◌else◌}
use Rattle.std.specs.Prelude.{List, [], ◌∷◌, length, Option, Some, None, slice_index, slice_index_or, slice_set}
use Rattle.pc_linear.specs.declared.term.Term.{Term}
use Rattle.pc_linear.specs.Form.{Form}
use Rattle.pc_window.specs.Opening.{TermsBelow}
use Rattle.pc_window.specs.Rebasing.{is_in}
use Rattle.pc_window.specs.Unwinding.{or_zero}
use Rattle.pc_canon.specs.Canonical.{place_of}
use Rattle.pc_renumber.specs.Renumbering.{stands_in, new_variable}

-- ---- names

-- the new number of a name in a table by name, and 0 where it has none
abbrev pub number_in : List (Option ℕ) → ℕ → ℕ
number_in numbers x = or_zero (slice_index_or numbers x None)

-- the place of a name in a list, if it is there
abbrev pub place_if : List ℕ → ℕ → Option ℕ
place_if names x = if is_in x names then Some (place_of names x) else None

-- each name of a list has its place as its number, and no other name has a number
pub record AreNumbers (numbers : List (Option ℕ)) (names : List ℕ) : Type 0 where
  pub tells : (x : ℕ) → slice_index_or numbers x None ≡ place_if names x

-- ---- form variables

-- marks, and those of the variables of terms
abbrev pub and_terms : List Term → List Bool → List Bool
and_terms [] marks = marks
and_terms (term ∷ terms) marks = and_terms terms (slice_set marks term.variable true)

-- marks, and those of the variables of forms
abbrev pub and_forms : List Form → List Bool → List Bool
and_forms [] marks = marks
and_forms (form ∷ forms) marks = and_forms forms (and_terms form.terms marks)

-- how many marks there are before each place, and before the end, where there were so many before
abbrev pub counts_from : ℕ → List Bool → List ℕ
counts_from count [] = count ∷ []
counts_from count (mark ∷ marks) = count ∷ counts_from ((if mark then 1 else 0) + count) marks

-- the new numbers of the variables below a number, and of that number
pub record AreNew (numbers : List ℕ) (forms : List Form) (variables : ℕ) : Type 0 where
  pub many : length numbers ≡ suc variables
  pub tells : (x : ℕ) → x ≤ variables → slice_index numbers x ≡ new_variable forms x

-- numbers that rise on the variables of terms
pub record Rise (numbers : List ℕ) (terms : List Term) : Type 0 where
  pub below : TermsBelow (length numbers) terms
  pub rise : (x y : ℕ) → stands_in terms x ≡ true → x < y → y < length numbers → slice_index numbers x < slice_index numbers y
