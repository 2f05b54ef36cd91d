-- Small rows against small fronts.
use Rattle.std.specs.Prelude.{◌≡◌, ℕ, pos, [], ◌∷◌, Some, None}
use Rattle.pc_word.specs.declared.item.Item.TheVariants.{Bin, Print}
use Rattle.pc_word.specs.declared.item.OpCode.TheVariants.{Add}
use Rattle.pc_word.specs.declared.item.Operand.TheVariants.{Name, Lit}
use Rattle.pc_word.specs.Row.{Row, Then, Either, At_leaf}
use Rattle.pc_matching.specs.FactsAfter.{that}
use Rattle.pc_matching.specs.RowMatch.{row_match}

-- a row of a loop that prints a sum and makes the next one, and a front whose print has gone to both sides of its test
abbrev pub printing_row : Row ℕ
printing_row = Either (Name 0) (Then (Bin Add 0 (Name 0) (Lit (pos 1))) (Then (Print (Name 0)) (At_leaf 0))) (Then (Print (Name 0)) (At_leaf 1))

abbrev pub printing_front : Row ℕ
printing_front =
    Either (Name 96) (Then (Print (Name 96)) (Then (Bin Add 97 (Name 96) (Lit (pos 1))) (At_leaf 0))) (Then (Print (Name 96)) (At_leaf 1))

-- where register 0 has the value of name 96, the row is found to match; on the yes side it has that of the next sum then
abbrev pub PrintingRowIsFound : Type 0
PrintingRowIsFound = row_match (that (Name 0) (Name 96) ∷ []) printing_row printing_front
    ≡ Some ((that (Name 0) (Name 97) ∷ []) ∷ (that (Name 0) (Name 96) ∷ []) ∷ [])

-- two prints
abbrev pub two_prints : ℕ → ℕ → Row ℕ
two_prints one other = Then (Print (Lit (pos one))) (Then (Print (Lit (pos other))) (At_leaf 0))

-- a row that prints in another order is not found to match
abbrev pub ExchangedPrintsAreNotFound : Type 0
ExchangedPrintsAreNotFound = row_match [] (two_prints 1 2) (two_prints 2 1) ≡ None
