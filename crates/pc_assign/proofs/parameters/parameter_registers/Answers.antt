use Rattle.std.proofs.Common.{rules, ◌≡◌, ◌+◌, ◌++◌, ◌∷◌, [], refl, sym, subst}
use Rattle.std.specs.Prelude.{slice_get}
use Rattle.pc_assign.specs.Assigned.{passed_at}
use Rattle.pc_assign.specs.models.Choosing.{member, IsParameterTaken}
use Rattle.pc_assign.proofs.Held.{SoFar, one_so_far}
use Rattle.pc_assign.proofs.parameters.parameter_registers.Goals as goal

pub loop-at-preserved : goal.loop-at-preserved
loop-at-preserved c =
    let pushed : c.push.new.self ≡ c.loop-at.held ++ c.parameter_register-register.result ∷ [] = search rules in
    let takes : IsParameterTaken c.args.scratch (member c.loop-at.taken)
    (passed_at (slice_get c.args.passed.now c.loop-at.at)) c.parameter_register-register.result =
    subst (λ p. IsParameterTaken c.args.scratch
    (member c.loop-at.taken) p c.parameter_register-register.result) c.passed_at.ensures c.parameter_register-register.ensures.chosen in
    subst (λ h. SoFar c.args.scratch c.args.passed.now h c.with-taken.result (c.loop-at.at + 1)) (sym pushed)
    (one_so_far c.args.scratch c.args.passed.now c.loop-at.held c.loop-at.taken c.with-taken.result c.loop-at.at
    (c.loop-at.at + 1) c.parameter_register-register.result c.loop-at.invariant refl
    takes c.parameter_register-register.ensures.most c.with-taken.ensures)
