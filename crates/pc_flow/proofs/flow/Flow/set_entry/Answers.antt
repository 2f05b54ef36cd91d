use Rattle.std.proofs.Common.{sym, subst}
use Rattle.pc_flow.specs.FlowGraph.{FlowGraph, IsTarget}
use Rattle.pc_flow.specs.contracts.flow.Flow.{the_view}
use Rattle.pc_flow.proofs.Graphs.{set_entry_keeps}
use Rattle.pc_flow.proofs.flow.Flow.set_entry.Goals as goal

pub invariant_of-self : goal.invariant_of-self
invariant_of-self c =
    let there = subst (λ (flow : FlowGraph). IsTarget flow c.args.id) (sym c.self.view_is) c.requires.there in
    set_entry_keeps (the_view c.self.inside) c.args.id c.self.invariant there
