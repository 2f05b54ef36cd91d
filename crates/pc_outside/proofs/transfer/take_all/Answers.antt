use Rattle.std.proofs.Common.{◌≤◌, ◌+◌, length, take, arith, inl, inr}
use Rattle.std.proofs.lemmas.Grind.{common_steps}
use Rattle.std.proofs.lemmas.Result.{err_from_is_err_and}
use Rattle.pc_outside.proofs.StreamLemmas.{Consumes-none, LosesFront-more, TakesFirst-from_consumes}
use Rattle.pc_outside.proofs.transfer.take_all.Goals as goal
use Rattle.pc_outside.proofs.transfer.take_all.Goals.{else-loop-piece-test, then-loop-piece-test+in_ok-n+then-n-eq0}

pub returns-in_err-extend_from_slice-clause-lost :
    goal.returns-in_err-extend_from_slice-clause-lost
returns-in_err-extend_from_slice-clause-lost g c =
    let fits : length c.loop-piece.all.items + length (take c.in_ok-n.n c.read.new.into) ≤ c.args.most =
    grind (arith, common_steps, c.loop-piece.all.ok.0, c.in_ok-n.ensures.bound, c.read.auto.into) in
    let p = err_from_is_err_and c.from_residual-in_err-extend_from_slice.result c.from_residual-in_err-extend_from_slice.ensures.1 in
    rw p.1 (LosesFront-more _ _ _ c.args.most c.loop-piece.all.items _ fits c.loop-piece.invariant.taken c.in_ok-n.ensures.bytes.0)

pub returns-clause-first : goal.returns-clause-first
returns-clause-first g c =
    let within : length c.loop-piece.all.items ≤ c.args.most = omega (arith, c.loop-piece.all.ok.0, c.loop-piece.invariant.within) in
    elim c.loop-piece-test.branch [
      | else-loop-piece-test w ↦ rw w.source-is (TakesFirst-from_consumes _ _ c.args.most c.loop-piece.all.items within c.loop-piece.invariant.taken (inl (omega (arith, c.loop-piece.all.ok.0))))
      | then-loop-piece-test+in_ok-n+then-n-eq0 w ↦ rw w.source-is (TakesFirst-from_consumes _ _ c.args.most c.loop-piece.all.items within
          (Consumes-none _ _ _ _ w.read.new.into w.in_ok-n.n w.if-n-eq0.true c.loop-piece.invariant.taken w.in_ok-n.ensures.bytes.0)
          (inr (w.in_ok-n.ensures.bytes.1 w.if-n-eq0.true (grind (arith, common_steps, w.read.auto.into)))))
    ]
