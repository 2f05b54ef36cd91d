use Rattle.std.proofs.Common.{◌-◌, ◌≤◌, vec_len}
use Rattle.std.specs.Io.KnownBytes.{Consumes}
use Rattle.pc_outside.proofs.transfer.take_all.Given as goal

abbrev pub invariant-loop-piece : goal.invariant-loop-piece
invariant-loop-piece g l =
    let left = g.S.Source.left in
    record {
      within : vec_len l.all ≤ l.most;
      taken : Consumes (left l.initial.source) (left l.source) l.all.items;
      counted : g.S.Source.faults l.initial.source ≤ g.S.Source.faults l.source;
    }

abbrev pub decreases-loop-piece : goal.decreases-loop-piece
decreases-loop-piece g l = l.most - vec_len l.all
