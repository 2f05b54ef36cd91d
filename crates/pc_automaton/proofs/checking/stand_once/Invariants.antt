use Rattle.std.proofs.Common.{◌≡◌}
use Rattle.std.specs.Prelude.{drop}
use Rattle.pc_automaton.specs.models.Checking.{stand_once}
use Rattle.pc_automaton.proofs.checking.stand_once.Given as goal
use Rattle.pc_word.specs.StoredRow.{row_in}

abbrev pub invariant-loop-at : goal.invariant-loop-at
invariant-loop-at l = stand_once l.names (row_in (λ leaf. leaf) l.row) ≡ stand_once (drop l.at l.names) (row_in (λ leaf. leaf) l.row)
