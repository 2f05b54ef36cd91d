use Rattle.std.proofs.Common.{sym, ◌∙◌, subst}
use Rattle.std.specs.Prelude.{slice_index_or}
use Rattle.pc_forward.specs.declared.ways.Way.TheVariants.{Nothing}
use Rattle.pc_forward.specs.models.Walking.{Walked}
use Rattle.pc_forward.proofs.GoingOn.{begins_trail, on_ok}
use Rattle.pc_forward.proofs.Walks.{head_waits}
use Rattle.pc_forward.proofs.walking.Walk.start.Goals as goal

pub visit-requires-clause-walked : goal.visit-requires-clause-walked
visit-requires-clause-walked c =
    head_waits c.args.flow.now c.args.self.now.left c.args.self.now.nodes c.args.self.now.waiting c.args.head _
    (subst (Walked c.args.flow.now c.args.self.now.left c.args.self.now.nodes) (sym c.requires.none) c.requires.walked) c.requires.there c.in_ok-trail.ensures
    (begins_trail c.args.flow.now c.args.head (slice_index_or c.args.table.now c.args.head Nothing) (c.requires.table.each c.args.head c.requires.there)
    (sym c.begins.ensures ∙ c.if-not-begins.false))

pub returns-clause-still : goal.returns-clause-still
returns-clause-still c = on_ok c.rest.result (λ still at e. still at (c.in_ok-visit.ensures.still at e)) c.rest.ensures.still

pub returns-clause-begun : goal.returns-clause-begun
returns-clause-begun c = on_ok c.rest.result (λ still e. still c.args.head c.in_ok-visit.ensures.done) c.rest.ensures.still
