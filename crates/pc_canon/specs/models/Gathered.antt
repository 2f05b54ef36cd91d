-- Columns of form variables in a list by variable.
use Rattle.std.specs.List.{AllByRecursion}
use Rattle.std.specs.Prelude.{◌≡◌, Bool, false, true, ℕ, suc, ◌+◌, ℤ, pos, List, [], ◌∷◌, ◌++◌, slice_index_or, slice_set, Option, Some, None}
use Rattle.pc_linear.specs.declared.term.Term.{Term}
use Rattle.pc_linear.specs.Form.{Form, factor_of}
use Rattle.pc_canon.specs.declared.columns.PlacedFactor.{PlacedFactor}
use Rattle.pc_canon.specs.Canonical.{with_factor, stands_before}

-- a column by its first place, with the factor there, and what stands behind them
abbrev pub column_from : Option PlacedFactor → List ℤ → List ℤ
column_from None more = []
column_from (Some first) more = pos first.place ∷ first.factor ∷ more

-- where there is no first place, nothing stands behind it
abbrev pub IsColumnFrom : Option PlacedFactor → List ℤ → Type 0
IsColumnFrom None more = more ≡ []
IsColumnFrom (Some first) more = Unit {0}

-- the column of a variable
abbrev pub column_in : List (List ℤ) → ℕ → List ℤ
column_in columns x = slice_index_or columns x []

-- columns with one term more, of the form at a place
abbrev pub and_term : ℕ → Term → List (List ℤ) → List (List ℤ)
and_term place term columns = slice_set columns term.variable (column_in columns term.variable ++ pos place ∷ term.factor ∷ [])

-- columns with the terms of the form at a place
abbrev pub and_terms : ℕ → List Term → List (List ℤ) → List (List ℤ)
and_terms place [] columns = columns
and_terms place (term ∷ terms) columns = and_terms place terms (and_term place term columns)

-- columns, from that of a variable on, with the factors of the form at a place
abbrev pub with_factors : ℕ → List Term → ℕ → List (List ℤ) → List (List ℤ)
with_factors place terms x [] = []
with_factors place terms x (column ∷ columns) = (column ++ with_factor place (factor_of terms x) []) ∷ with_factors place terms (suc x) columns

-- columns with the factors of forms, from a place on
abbrev pub and_forms : ℕ → List Form → List (List ℤ) → List (List ℤ)
and_forms place [] columns = columns
and_forms place (form ∷ forms) columns = and_forms (place + 1) forms (with_factors place form.terms 0 columns)

-- columns are in order: none stands before one that is ahead of it
abbrev pub AreInOrder : List (List ℤ) → Type 0
AreInOrder [] = Unit {0}
AreInOrder (column ∷ columns) = AllByRecursion (λ other. stands_before other column ≡ false) columns × AreInOrder columns

-- whether a column is not empty
abbrev pub occurs : List ℤ → Bool
occurs [] = false
occurs (z ∷ zs) = true
