use Rattle.std.proofs.Common.{◌≡◌, ◌++◌, drop}
use Rattle.pc_emit.specs.Registers.{argument_moves}
use Rattle.pc_emit.specs.models.Output.{of_state}
use Rattle.pc_emit.proofs.names.argument_moves.Given as goal

-- the moves so far, before those of the parameters that are left, are those of all
abbrev pub invariant-loop-at : goal.invariant-loop-at
invariant-loop-at l =
    l.moves.items ++ argument_moves (of_state l.from) (of_state l.to) (drop l.at l.parameters) (drop l.at l.arguments)
    ≡ argument_moves (of_state l.from) (of_state l.to) l.parameters l.arguments
