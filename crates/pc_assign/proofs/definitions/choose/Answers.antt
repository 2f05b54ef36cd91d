use Rattle.std.proofs.Common.{◌≡◌, ◌||◌, ◌∙◌, ap, subst, arith}
use Rattle.pc_window.specs.Rebasing.{is_in}
use Rattle.pc_assign.specs.models.Choosing.{member, IsLeastAbsent, Of_taken, Of_needed}
use Rattle.pc_assign.proofs.Sets.{absent_seen}
use Rattle.pc_assign.proofs.definitions.choose.Goals as goal

pub returns-then-register-from-clause-chosen : goal.returns-then-register-from-clause-chosen
returns-then-register-from-clause-chosen c =
    Of_taken (omega (arith, c.if-register-from.true, c.from.ensures))
    (absent_seen c.args.held.now.scratch _ _ c.least_absent-register.result
    (λ x. c.union.ensures x ∙ ap (λ b. b || member c.args.above x) (c.requires.set x)) c.least_absent-register.ensures)

pub returns-clause-chosen : goal.returns-clause-chosen
returns-clause-chosen c =
    let full : c.least_absent-register.result ≡ c.args.held.now.scratch =
    omega (arith, c.if-register-from.false, c.from.ensures, c.least_absent-register.ensures.most) in
    Of_needed
    (absent_seen c.args.held.now.scratch _ _ c.args.held.now.scratch
    (λ x. c.union.ensures x ∙ ap (λ b. b || member c.args.above x) (c.requires.set x))
    (subst (IsLeastAbsent c.args.held.now.scratch (member c.union.result)) full c.least_absent-register.ensures))
    (absent_seen c.args.held.now.scratch _ _ c.least_absent.result
    (λ x. c.union-2.ensures x ∙ ap (λ b. b || member c.args.above x) (c.used_below.ensures x)) c.least_absent.ensures)
