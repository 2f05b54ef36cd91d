-- Which rows lead to a row.
use Rattle.std.specs.Prelude.{ℕ, suc, Bool, if◌then◌else◌, List, [], ◌∷◌}
use Rattle.std.specs.List.{list_any}
use Rattle.pc_word.specs.Row.{leaves_of}
use Rattle.pc_machine.specs.MachineCode.{CodeRow, is_goto}

-- whether a leaf of a row leads to the row with this number
abbrev pub leads_to : ℕ → CodeRow → Bool
leads_to target row = list_any (is_goto target) (leaves_of row)

-- the numbers of the rows that lead to a row, of these, which are numbered from `number` on
abbrev pub rows_leading_to : ℕ → ℕ → List CodeRow → List ℕ
rows_leading_to target number [] = []
rows_leading_to target number (row ∷ rest) =
    if leads_to target row then number ∷ rows_leading_to target (suc number) rest else rows_leading_to target (suc number) rest
