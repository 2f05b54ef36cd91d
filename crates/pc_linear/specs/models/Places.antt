-- Places among terms with rising variables.
use Rattle.std.specs.Prelude.{ℕ, suc, ℤ, if◌then◌else◌, nat_lt, nat_eq, List, [], ◌∷◌, Option, Some, None}
use Rattle.pc_linear.specs.declared.term.Term.{Term}

-- how many of the first terms have variables below a number
abbrev pub rank : ℕ → List Term → ℕ
rank variable [] = 0
rank variable (t ∷ ts) = if nat_lt t.variable variable then suc (rank variable ts) else 0

-- the factor of a variable at its place, if it has one there
abbrev pub factor_at : ℕ → List Term → Option ℤ
factor_at variable [] = None
factor_at variable (t ∷ ts) =
    if nat_lt t.variable variable then factor_at variable ts
    else if nat_eq variable t.variable then Some t.factor
    else None
