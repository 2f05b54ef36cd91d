use Rattle.std.proofs.Common.{[]}
use Rattle.pc_view.specs.models.Lists.{AreLists}
use Rattle.pc_view.proofs.leading.no_numbers.Given as goal

-- so far there are as many empty lists as turns
abbrev pub invariant-loop-i : goal.invariant-loop-i
invariant-loop-i l = AreLists l._i [] l.lists.items
