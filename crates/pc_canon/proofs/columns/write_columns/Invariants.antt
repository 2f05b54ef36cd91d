use Rattle.std.proofs.Common.{◌≡◌, ◌++◌, drop}
use Rattle.pc_canon.specs.Key.{column_numbers, list_numbers}
use Rattle.pc_canon.proofs.columns.write_columns.Given as goal

-- what is written so far, and then what is left, is the whole
abbrev pub invariant-loop-column : goal.invariant-loop-column
invariant-loop-column l = l.numbers ++ list_numbers column_numbers (drop l.column-index l.columns) ≡ l.fn.numbers ++ list_numbers column_numbers l.columns
