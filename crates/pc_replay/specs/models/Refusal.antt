-- How the code answers an error of a move.
use Rattle.pc_moveop.specs.declared.error.MoveError.{MoveError}
use Rattle.pc_moveop.specs.declared.error.MoveError.TheVariants as move
use Rattle.pc_replay.specs.declared.error.ReplayError.{ReplayError}
use Rattle.pc_replay.specs.declared.error.ReplayError.TheVariants.{Memory, Refused}

-- want of memory, or a move that is refused
abbrev pub refusal_for : MoveError → ReplayError
refusal_for move.Memory = Memory
refusal_for why = Refused why
