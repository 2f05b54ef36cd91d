use Rattle.std.proofs.Common.{◌≡◌, ◌++◌, take, All}
use Rattle.std.specs.List.{flat_map}
use Rattle.pc_machine.specs.MachineCode.{row_of, rows_of}
use Rattle.pc_object.specs.ObjectText.{row_text}
use Rattle.pc_object.specs.Numbers.{RowNumbersFit}
use Rattle.pc_object.proofs.encoding.push_rows.Given as goal

abbrev pub invariant-loop-row : goal.invariant-loop-row
invariant-loop-row l = record {
  text : l.out.items ≡ l.fn.out.items ++ flat_map row_text (rows_of (take l.row-index l.rows));
  words : All (λ tree. RowNumbersFit (row_of tree)) (take l.row-index l.rows);
}
