use Rattle.std.proofs.Common.{sym, ◌∙◌}
use Rattle.std.specs.Prelude.{slice_index_or}
use Rattle.pc_forward.specs.declared.ways.Way.TheVariants.{Nothing}
use Rattle.pc_forward.proofs.GoingOn.{only_way, no_way}
use Rattle.pc_forward.proofs.walking.leads_on.Goals as goal

pub returns-clause-only : goal.returns-clause-only
returns-clause-only c = λ e.
    only_way c.args.flow.now c.args.from c.args.to (slice_index_or c.args.table.now c.args.to Nothing) c.requires.kept (c.requires.table.each c.args.to c.requires.there) (sym c.follows.ensures ∙ e)

pub returns-clause-ends : goal.returns-clause-ends
returns-clause-ends c = λ e way. absurd
    (no_way c.args.flow.now c.args.from c.args.to (slice_index_or c.args.table.now c.args.to Nothing) c.requires.kept (c.requires.table.each c.args.to c.requires.there)
    (sym c.follows.ensures ∙ e) way)
