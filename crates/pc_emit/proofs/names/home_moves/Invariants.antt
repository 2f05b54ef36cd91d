use Rattle.std.proofs.Common.{◌≡◌, ◌++◌, drop}
use Rattle.pc_emit.specs.Registers.{home_moves}
use Rattle.pc_emit.specs.models.Output.{of_state}
use Rattle.pc_emit.proofs.names.home_moves.Given as goal

-- the moves so far, before those of the homes that are left, are those of all
abbrev pub invariant-loop-home : goal.invariant-loop-home
invariant-loop-home l =
    l.moves.items ++ home_moves (of_state l.from) (drop l.home-index l.homes) ≡ home_moves (of_state l.from) l.homes
