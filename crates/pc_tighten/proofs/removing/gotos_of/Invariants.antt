use Rattle.std.proofs.Common.{◌≡◌, take}
use Rattle.pc_machine.specs.MachineCode.{rows_of}
use Rattle.pc_tighten.specs.models.Gotos.{gotos_of}
use Rattle.pc_tighten.proofs.removing.gotos_of.Given as goal

abbrev pub invariant-loop-row : goal.invariant-loop-row
invariant-loop-row l = l.gotos.items ≡ gotos_of (rows_of (take l.row-index l.rows))
