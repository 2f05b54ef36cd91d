use Rattle.std.proofs.Common.{◌≡◌, take}
use Rattle.pc_check.specs.InitialData.{values_of}
use Rattle.pc_check.proofs.initial.data_of.Given as goal

-- the words so far are the values so far
abbrev pub invariant-loop-constant : goal.invariant-loop-constant
invariant-loop-constant l = l.words ≡ values_of (take l.constant-index (take l.kept l.values))
