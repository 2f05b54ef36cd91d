-- Rows whose numbers fit into their fields: what the writer of rows asks for.
use Rattle.std.specs.Prelude.{ℕ}
use Rattle.pc_word.specs.Row.{Then, Either, At_leaf}
use Rattle.pc_machine.specs.MachineCode.{CodeRow}
use Rattle.pc_machine.specs.WellFormed.{IsOperand, IsItem, IsLeaf}

-- a row whose registers, arrays and targets are there, of so many each
abbrev pub IsInRange : ℕ → ℕ → ℕ → CodeRow → Type 0
IsInRange registers arrays rows (Then item rest) = IsItem registers arrays item × IsInRange registers arrays rows rest
IsInRange registers arrays rows (Either on on_yes on_no) =
    IsOperand registers on × IsInRange registers arrays rows on_yes × IsInRange registers arrays rows on_no
IsInRange registers arrays rows (At_leaf leaf) = IsLeaf rows leaf
