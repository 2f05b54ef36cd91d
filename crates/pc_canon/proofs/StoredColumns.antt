-- Columns as they are kept: the first place and its factor, and what stands behind them.
use Rattle.std.proofs.Common.{◌≡◌, ℕ, List, [], ◌∷◌, ◌++◌, ◌∙◌, ap, Some}
use Rattle.std.proofs.lemmas.List.{append_assoc}
use Rattle.std.specs.Prelude.{ℤ, pos}
use Rattle.pc_canon.specs.declared.columns.PlacedFactor.{PlacedFactor}
use Rattle.pc_canon.specs.Key.{column_numbers}
use Rattle.pc_canon.specs.models.Gathered.{column_from}

-- a place is put behind others
pub column_grown : (first : PlacedFactor) (more mid new : List ℤ) (place : ℕ) (factor : ℤ) → mid ≡ more ++ pos place ∷ [] → new ≡ mid ++ factor ∷ []
    → column_from (Some first) new ≡ column_from (Some first) more ++ pos place ∷ factor ∷ []
column_grown first more mid new place factor one two =
    ap (λ (l : List ℤ). pos first.place ∷ first.factor ∷ l)
    (two ∙ ap (λ (l : List ℤ). l ++ factor ∷ []) one ∙ append_assoc more (pos place ∷ []) (factor ∷ []))

-- a column that is not empty is written in parts
pub column_written : (place : ℕ) (factor : ℤ) (more old one two three new : List ℤ) → one ≡ old ++ pos 1 ∷ pos 1 ∷ [] → two ≡ one ++ pos place ∷ []
    → three ≡ two ++ pos 1 ∷ factor ∷ [] → new ≡ three ++ column_numbers more → new ≡ old ++ pos 1 ∷ column_numbers (pos place ∷ factor ∷ more)
column_written place factor more old one two three new first second third last =
    last ∙ ap (λ (l : List ℤ). l ++ column_numbers more) (third ∙ ap (λ (l : List ℤ). l ++ pos 1 ∷ factor ∷ []) (second ∙ ap (λ (l : List ℤ). l ++ pos place ∷ []) first))
    ∙ append_assoc ((old ++ pos 1 ∷ pos 1 ∷ []) ++ pos place ∷ []) (pos 1 ∷ factor ∷ []) (column_numbers more)
    ∙ append_assoc (old ++ pos 1 ∷ pos 1 ∷ []) (pos place ∷ []) (pos 1 ∷ factor ∷ column_numbers more)
    ∙ append_assoc old (pos 1 ∷ pos 1 ∷ []) (pos place ∷ pos 1 ∷ factor ∷ column_numbers more)

pub ruleset stored = (column_grown, column_written)
