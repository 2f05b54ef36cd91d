use Rattle.std.proofs.Common.{◌≡◌, take}
use Rattle.pc_pattern.specs.models.Renaming.{pairs_in, arguments_for}
use Rattle.pc_pattern.proofs.renaming.arguments_for.Given as goal

-- the arguments so far
abbrev pub invariant-loop-name : goal.invariant-loop-name
invariant-loop-name l = l.arguments ≡ arguments_for (pairs_in l.names) (take l.name-index l.parameters)
