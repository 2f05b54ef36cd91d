-- The names of rows, line by line.
use Rattle.std.proofs.Common.{ℕ, suc, ◌<◌, ◌≤◌, ◌≡◌, Bool, true, false, ◌||◌, if◌then◌else◌, arith, nat_lt}
use Rattle.std.proofs.Common.{List, [], ◌∷◌, refl}
use Rattle.std.proofs.lemmas.Bool.Decides.{nat_tests}
use Rattle.pc_assembly.specs.declared.bytes.Class.TheVariants as class
use Rattle.pc_assembly.specs.declared.spelling.Word.TheVariants as word
use Rattle.pc_assembly.specs.Bytes.{after_run}
use Rattle.pc_assembly.specs.Words.{is_next}
use Rattle.pc_assembly.specs.Names.{Names, most_row, is_named, names_after, rows_after, names_from}

-- one line more
pub names_step : (names : Names) (rows : ℕ) (lines : List (List ℕ)) (line : List ℕ) (rest : List (List ℕ)) → lines ≡ line ∷ rest
    → rows ≤ most_row
    → names_from (names_after names rows (after_run class.Indent line)) (rows_after rows (after_run class.Indent line)) rest
    ≡ names_from names rows lines
unfolding names_from
names_step names rows lines line rest is few =
    let within : nat_lt most_row rows ≡ false = grind (arith, nat_tests, few) in
    rw (is, within) refl

-- behind the row with the greatest number there is none
pub names_full : (names : Names) (rows : ℕ) (lines : List (List ℕ)) → most_row < rows → names_from names rows lines ≡ names
unfolding names_from
names_full names rows [] many = refl
names_full names rows (line ∷ lines) many =
    let beyond : nat_lt most_row rows ≡ true = grind (arith, nat_tests, many) in
    rw beyond refl

-- a line begins one row at most
pub rows_few : (rows : ℕ) (bytes : List ℕ) → rows ≤ most_row → rows_after rows bytes ≤ suc most_row
unfolding rows_after
rows_few rows bytes few = by (is_next word.Row bytes || is_named bytes)
  where
    by : (begins : Bool) → (if begins then suc rows else rows) ≤ suc most_row
    by true = omega (arith, few)
    by false = omega (arith, few)
