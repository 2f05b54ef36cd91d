use Rattle.std.proofs.Common.{◌≡◌, []}
use Rattle.pc_forward.specs.models.Walking.{Walked, AreBegun}
use Rattle.pc_forward.proofs.walking.Walk.all.Given as goal

-- the trails from the nodes so far
abbrev pub invariant-loop-head : goal.invariant-loop-head
invariant-loop-head l = record {
  walked : Walked l.flow l.self.left l.self.nodes [];
  none : l.self.waiting ≡ [];
  heads : AreBegun l.table l.head l.self.left;
}
