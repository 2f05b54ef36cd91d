-- The turns of parameters, one at a time.
use Rattle.std.specs.Prelude.{ℕ, List, [], ◌∷◌, ◌++◌}
use Rattle.pc_linear.specs.declared.term.Term.{Term}
use Rattle.pc_window.specs.Opening.{Supply}
use Rattle.pc_window.specs.Rebasing.{Turned, free_terms, second_turn}
use Rattle.pc_window.specs.StoredWindow.{supply_in}
use Rattle.pc_rebase.specs.declared.terms.FewTerms.{FewTerms}
use Rattle.pc_rebase.specs.declared.terms.FewTerms.TheVariants.{Nothing, One, Several}
use Rattle.pc_rebase.specs.declared.turns.Turning.{Turning}

-- no term, one, or several
abbrev pub few_of : List Term → FewTerms
few_of [] = Nothing
few_of (t ∷ []) = One t
few_of (t ∷ u ∷ ts) = Several

-- a term before others
abbrev pub and_term : Term → FewTerms → FewTerms
and_term t Nothing = One t
and_term t (One u) = Several
and_term t Several = Several

-- a list from its end
abbrev pub reversed : List ℕ → List ℕ
reversed [] = []
reversed (x ∷ xs) = reversed xs ++ x ∷ []

-- names in the making with these parameters left; the newest base comes first
abbrev pub turned : Turning → List ℕ → Turned
turned turning left = record { names = supply_in turning.names; bases = reversed turning.bases; left = left }

-- names before any turn
abbrev pub unturned : Supply → Turned
unturned names = record { names = names; bases = []; left = [] }

-- the second turn of a parameter
abbrev pub second_turned : List ℕ → ℕ → Turned → Turned
second_turned all p t = second_turn all p (free_terms t.bases (t.names.forms p).terms) t
