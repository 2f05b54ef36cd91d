use Rattle.std.proofs.Common.{◌≡◌, ◌-◌}
use Rattle.pc_machine.specs.MachineCode.{rows_of}
use Rattle.pc_object.specs.Reading.{rows_at}
use Rattle.pc_object.proofs.Loop.{with_front}
use Rattle.pc_object.proofs.rows.rows.Given as goal

abbrev pub invariant-loop : goal.invariant-loop
invariant-loop l = with_front (rows_of l.rows.items) (rows_at l.bounds (l.bounds.rows - l.counter) l.rest) ≡ rows_at l.bounds l.bounds.rows l.bytes
