use Rattle.std.proofs.Common.{sym, subst}
use Rattle.pc_flow.specs.FlowGraph.{IsTarget}
use Rattle.pc_flow.proofs.Graphs.{set_entry_keeps}
use Rattle.pc_lower.specs.models.Drafts.{Draft}
use Rattle.pc_lower.specs.contracts.draft.Draft.{the_view}
use Rattle.pc_lower.proofs.draft.Draft.into_flow.Goals as goal

pub new-requires : goal.new-requires
new-requires c =
    let there = subst (λ (draft : Draft). IsTarget draft.graph c.args.entry) (sym c.self.view_is) c.requires.there in
    set_entry_keeps (the_view c.self.inside).graph c.args.entry c.self.invariant.flow there
