use Rattle.std.proofs.Common.{◌≡◌, ◌++◌, take}
use Rattle.pc_matching.proofs.effects.push_items.Given as goal

-- the items so far stand behind the others
abbrev pub invariant-loop-item : goal.invariant-loop-item
invariant-loop-item l = l.items ≡ l.initial.items ++ take l.item-index l.more
