use Rattle.std.proofs.Common.{◌≡◌, ◌++◌, take}
use Rattle.std.specs.List.{flat_map}
use Rattle.pc_matching.specs.Facts.{facts_of}
use Rattle.pc_matching.specs.FactsAfter.{copied_literal}
use Rattle.pc_matching.proofs.carrying.push_literals.Given as goal

-- the literals so far stand behind the others
abbrev pub invariant-loop-item : goal.invariant-loop-item
invariant-loop-item l = facts_of l.before ≡ facts_of l.initial.before ++ flat_map copied_literal (take l.item-index l.writers)
