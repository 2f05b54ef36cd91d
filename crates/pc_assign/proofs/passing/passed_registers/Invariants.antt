use Rattle.std.proofs.Common.{◌≡◌, map, take}
use Rattle.pc_assign.specs.Assigned.{operand_register}
use Rattle.pc_assign.specs.Stored.{beside}
use Rattle.pc_assign.proofs.passing.passed_registers.Given as goal

abbrev pub invariant-loop-at : goal.invariant-loop-at
invariant-loop-at l = l.passed ≡ map (operand_register (beside l.registers.names.keys l.registers.registers)) (take l.at l.arguments)
