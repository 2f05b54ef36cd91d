use Rattle.std.proofs.Common.{sym, ◌∙◌}
use Rattle.pc_ranges.proofs.Kept.{void_implies, inside_implies}
use Rattle.pc_ranges.proofs.keeping.implies.Goals as goal

pub returns-then-is_void : goal.returns-then-is_void
returns-then-is_void c = λ e. void_implies c.args.bounds.now c.args.target.now (c.is_void.ensures c.if-is_void.true)

pub returns : goal.returns
returns c = λ e. inside_implies c.args.bounds.now c.args.target.now (sym c.is_latest.ensures ∙ c.if-not-is_latest.false) (c.are_inside.ensures e)
