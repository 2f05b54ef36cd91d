use Rattle.std.proofs.Common.{subst, inl, inr}
use Rattle.std.specs.Prelude.{IsSome}
use Rattle.pc_machine.specs.MachineCode.{row_of}
use Rattle.pc_renaming.specs.Witness.{renaming_of}
use Rattle.pc_renaming.specs.models.Wanted.{IsWanted}
use Rattle.pc_renaming.proofs.checking.+place_below.Goals as goal

pub returns-in-Step-clause-none : goal.returns-in-Step-clause-none
returns-in-Step-clause-none t c place wanted =
    let below = subst (λ tree. IsWanted (renaming_of c.args.told.now) c.args.register place (row_of tree)) c.in-Step.is wanted in
    c.place_below.ensures.none place (rw c.deref.ensures below)

pub returns-in-None-clause-none : goal.returns-in-None-clause-none
returns-in-None-clause-none t c place wanted =
    elim (subst (λ tree. IsWanted (renaming_of c.args.told.now) c.args.register place (row_of tree)) c.in-Test.is wanted) [
      | inl below ↦ let some = subst IsSome c.in-None.is (c.place_below-in-Test.ensures.none place (rw c.deref-in-Test.ensures below)) in absurd (cc)
      | inr below ↦ c.place_below-in-None.ensures.none place (rw c.deref-in-None.ensures below)
    ]
