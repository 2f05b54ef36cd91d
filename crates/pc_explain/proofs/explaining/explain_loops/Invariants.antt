use Rattle.pc_table.specs.StoredTable.{table_of}
use Rattle.pc_explain.proofs.InTurn.{GoesOn}
use Rattle.pc_explain.proofs.explaining.explain_loops.Given as goal

abbrev pub invariant-loop-choice : goal.invariant-loop-choice
invariant-loop-choice l = GoesOn l.flow (table_of l.table) l.limits l.extent l.line l.choices l.choice-index l.loops
