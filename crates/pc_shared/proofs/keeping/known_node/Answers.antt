use Rattle.std.proofs.Common.{Some, sym, ap, ◌∙◌}
use Rattle.pc_shared.proofs.Equality.{node_tells}
use Rattle.pc_shared.proofs.keeping.known_node.Goals as goal

pub returns-then-eq : goal.returns-then-eq
returns-then-eq c = c.get-2.ensures ∙ ap Some (node_tells c.get-2.result.now c.args.node.now (sym c.eq.ensures ∙ c.if-eq.true))
