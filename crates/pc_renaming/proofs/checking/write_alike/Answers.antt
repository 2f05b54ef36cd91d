use Rattle.std.proofs.Common.{sym}
use Rattle.pc_machine.specs.MachineCode.{row_of}
use Rattle.pc_renaming.specs.Witness.{renaming_of}
use Rattle.pc_renaming.proofs.Going.{written_alike, written_apart}
use Rattle.pc_renaming.proofs.checking.write_alike.Goals as goal

pub returns-in-Some-dest-clause-alike : goal.returns-in-Some-dest-clause-alike
returns-in-Some-dest-clause-alike c alike =
    written_alike (renaming_of c.args.told.now) c.args.old c.args.new (row_of c.args.row.now) c.in-Some.register c.in-Some-dest.place
    (sym c.in-Some.ensures) (sym c.in-Some-dest.ensures) (c.are_wanted_alike.ensures.alike alike)

pub returns-in-Some-dest-clause-apart : goal.returns-in-Some-dest-clause-apart
returns-in-Some-dest-clause-apart c apart =
    written_apart (renaming_of c.args.told.now) c.args.old c.args.new (row_of c.args.row.now) c.in-Some.register c.in-Some-dest.place
    (sym c.in-Some.ensures) (sym c.in-Some-dest.ensures) (c.are_wanted_alike.ensures.apart apart)
