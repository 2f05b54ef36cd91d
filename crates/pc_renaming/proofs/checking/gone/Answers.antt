use Rattle.std.proofs.Common.{length, sym}
use Rattle.pc_machine.specs.MachineCode.{row_of}
use Rattle.pc_renaming.specs.Witness.{renaming_of}
use Rattle.pc_renaming.specs.models.Tables.{homes_in, kept_in, written_in}
use Rattle.pc_renaming.proofs.Going.{both_some, goes_as_copy, goes_unneeded}
use Rattle.pc_renaming.proofs.checking.gone.Goals as goal

pub returns-in-Some-place_below-clause-goes : goal.returns-in-Some-place_below-clause-goes
returns-in-Some-place_below-clause-goes c =
    both_some c.copied.result (λ below copy then_is. goes_as_copy (length c.args.told.now) (renaming_of c.args.told.now) (homes_in c.args.homes.now) (kept_in c.args.path.now)
    (written_in c.args.path.now) c.args.item (row_of c.args.left.now) c.in-Some.dest c.in-Some-place_below.place (kept_in below) (sym c.in-Some.ensures)
    c.in-Some-place_below.ensures.some copy then_is) c.copied.ensures.copy c.copied.ensures.kept

pub returns-in-None-place_below-clause-goes : goal.returns-in-None-place_below-clause-goes
returns-in-None-place_below-clause-goes c =
    both_some c.unneeded.result (λ below only then_is. goes_unneeded (length c.args.told.now) (renaming_of c.args.told.now) (homes_in c.args.homes.now) (kept_in c.args.path.now)
    (written_in c.args.path.now) c.args.item (row_of c.args.left.now) c.in-Some.dest (kept_in below) (sym c.in-Some.ensures)
    (λ place wanted. let some = c.in-None-place_below.ensures.none place wanted in absurd (cc)) only then_is) c.unneeded.ensures.only c.unneeded.ensures.kept
