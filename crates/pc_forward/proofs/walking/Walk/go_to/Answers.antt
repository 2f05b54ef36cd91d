use Rattle.std.proofs.Common.{sym, subst}
use Rattle.pc_forward.specs.models.Walking.{Adds, Waits_too, Not_so}
use Rattle.pc_forward.proofs.walking.Walk.go_to.Goals as goal

pub returns-in_ok-push-clause-adds : goal.returns-in_ok-push-clause-adds
returns-in_ok-push-clause-adds c =
    subst (Adds c.args.flow.now c.args.from c.args.trail c.args.to c.args.self.now.waiting) (sym c.in_ok-push.ensures.ok) (Waits_too (c.leads_on.ensures.only c.if-leads_on.true))

pub returns-else-leads_on-clause-adds : goal.returns-else-leads_on-clause-adds
returns-else-leads_on-clause-adds c = Not_so (c.leads_on.ensures.ends c.if-leads_on.false)
