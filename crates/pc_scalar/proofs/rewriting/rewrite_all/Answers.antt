use Rattle.std.proofs.Common.{◌<◌, length, sym, ◌∙◌, arith}
use Rattle.std.specs.Prelude.{slice_index_or}
use Rattle.pc_scalar.specs.declared.before.Predecessor.TheVariants.{Nothing}
use Rattle.pc_scalar.proofs.Rewrites.{begins_alone}
use Rattle.pc_scalar.proofs.rewriting.rewrite_all.Goals as goal

pub walk-requires-clause-begins : goal.walk-requires-clause-begins
walk-requires-clause-begins c =
    let there : c.loop-head.head < length c.args.flow.now.nodes = omega (arith, c.count-head-end.ensures.number) in
    begins_alone c.args.flow.now c.loop-head.head (slice_index_or c.args.table.now c.loop-head.head Nothing) (c.requires.table.each c.loop-head.head there)
    (sym c.begins.ensures ∙ c.if-begins.true)
