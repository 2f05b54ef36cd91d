use Rattle.pc_scalar.proofs.Tallies.{differ_at, alike_at}
use Rattle.pc_scalar.proofs.rewriting.is_changed.Goals as goal

pub returns-clause-counted : goal.returns-clause-counted
returns-clause-counted c = λ e. differ_at c.args.flow.now.nodes c.args.nodes.now c.requires.tell c.args.at c.node.result _ c.node.ensures _ c.as_slice.ensures _ c.differs.ensures e

pub returns-clause-left : goal.returns-clause-left
returns-clause-left c = λ e. alike_at c.args.flow.now.nodes c.args.nodes.now c.requires.tell c.args.at c.node.result _ c.node.ensures _ c.as_slice.ensures _ c.differs.ensures e
