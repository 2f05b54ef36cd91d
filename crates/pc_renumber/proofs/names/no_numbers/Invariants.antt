use Rattle.std.proofs.Common.{◌≡◌, [], length}
use Rattle.pc_renumber.specs.models.Numbering.{AreNumbers}
use Rattle.pc_renumber.proofs.names.no_numbers.Given as goal

-- so many names so far, none of which has a number
abbrev pub invariant-loop-name : goal.invariant-loop-name
invariant-loop-name l = record { many : length l.numbers.items ≡ l.name; none : AreNumbers l.numbers.items [] }
