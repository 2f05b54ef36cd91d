use Rattle.std.proofs.Common.{◌≤◌, None, refl, ◌∙◌, ap, arith, append-nil, ◌++◌, map, take, length}
use Rattle.std.proofs.lemmas.List.{take_all, drop_all}
use Rattle.pc_scalar.proofs.Tables.{changed_more}
use Rattle.pc_scalar.proofs.Rewrites.{dropped, all_dropped}
use Rattle.pc_scalar.proofs.rewriting.clear.Goals as goal

pub loop-at-preserved : goal.loop-at-preserved
loop-at-preserved c = changed_more dropped c.args.known.now c.loop-at.known c.loop-at.at None (omega arith) c.loop-at.invariant refl

pub returns : goal.returns
returns c =
    let end : length c.args.known.now ≤ c.loop-at.at = omega arith in
    c.loop-at.invariant ∙ ap (λ l. map dropped (take c.loop-at.at c.args.known.now) ++ l) (drop_all c.loop-at.at c.args.known.now end)
    ∙ append-nil (map dropped (take c.loop-at.at c.args.known.now))
    ∙ ap (map dropped) (take_all c.loop-at.at c.args.known.now end) ∙ all_dropped c.args.known.now
