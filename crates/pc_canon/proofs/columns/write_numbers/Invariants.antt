use Rattle.std.proofs.Common.{◌≡◌, ◌++◌, drop}
use Rattle.pc_canon.specs.Key.{column_numbers}
use Rattle.pc_canon.proofs.columns.write_numbers.Given as goal

-- what is written so far, and then what is left, is the whole
abbrev pub invariant-loop-number : goal.invariant-loop-number
invariant-loop-number l = l.numbers ++ column_numbers (drop l.number-index l.column) ≡ l.fn.numbers ++ column_numbers l.column
