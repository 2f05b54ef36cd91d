use Rattle.std.proofs.Common.{◌≡◌, ◌<◌, length, Some, ap, ◌∙◌, arith, refl}
use Rattle.std.specs.Prelude.{slice_get, List}
use Rattle.std.proofs.lemmas.Option.{slice_get_read}
use borrow.Author.Tests.{ltb-true}
use Rattle.pc_renaming.specs.declared.witness.Holding.{Holding}
use Rattle.pc_renaming.specs.Witness.{home_of}
use Rattle.pc_renaming.specs.models.Tables.{homes_in, kept_in, written_in}
use Rattle.pc_word.proofs.Lists.{all_at}
use Rattle.pc_word.proofs.Places.{map_at}
use Rattle.pc_machine.specs.Registers.{most_registers}
use Rattle.pc_machine.specs.MachineCode.{row_of, rows_of}
use Rattle.pc_renaming.specs.Writes.{RowWritesBelow}
use Rattle.pc_renaming.proofs.Checked.{does_origin, origin_does, none_made}
use Rattle.pc_renaming.proofs.checking.does_its_origin.Goals as goal

pub returns-clause-does : goal.returns-clause-does
returns-clause-does c =
    let here = c.in-Some.told_here.now in
    let old = c.in-Some-get.old.now in
    let below : c.args.number < length c.args.told.now = omega (arith, ltb-true, c.in-Some.ensures.lookup) in
    let at : slice_get c.args.told.now c.args.number ≡ Some here = slice_get_read c.args.told.now (length c.args.told.now) c.args.number here refl below c.in-Some.ensures.lookup.1 in
    let there_is : here.origin < length c.args.before.now = omega (arith, ltb-true, c.in-Some-get.ensures.lookup) in
    let there : slice_get c.args.before.now here.origin ≡ Some old = slice_get_read c.args.before.now (length c.args.before.now) here.origin old refl there_is c.in-Some-get.ensures.lookup.1 in
    λ e. does_origin c.args.told.now c.args.before.now c.args.registers c.args.number here old c.args.new.now
    (homes_in c.of-homes.result) (kept_in c.root-path.result) (written_in c.root-path.result) at there
    (c.of-homes.ensures ∙ ap (λ (l : List Holding). home_of l) c.as_slice.ensures) c.root-path.ensures.kept c.root-path.ensures.written (c.row.ensures.renames e)

pub returns-clause-exact : goal.returns-clause-exact
returns-clause-exact c =
    let here = c.in-Some.told_here.now in
    let old = c.in-Some-get.old.now in
    let below : c.args.number < length c.args.told.now = omega (arith, ltb-true, c.in-Some.ensures.lookup) in
    let at : slice_get c.args.told.now c.args.number ≡ Some here = slice_get_read c.args.told.now (length c.args.told.now) c.args.number here refl below c.in-Some.ensures.lookup.1 in
    let there_is : here.origin < length c.args.before.now = omega (arith, ltb-true, c.in-Some-get.ensures.lookup) in
    let there : slice_get c.args.before.now here.origin ≡ Some old = slice_get_read c.args.before.now (length c.args.before.now) here.origin old refl there_is c.in-Some-get.ensures.lookup.1 in
    λ registers all known does. c.row.ensures.exact registers
    (all_at (RowWritesBelow most_registers) (rows_of c.args.before.now) here.origin (row_of old) all (map_at row_of c.args.before.now here.origin old there))
    (none_made (kept_in c.root-path.result) (written_in c.root-path.result) c.root-path.ensures.kept)
    (origin_does c.args.told.now c.args.before.now c.args.registers c.args.number here old c.args.new.now
    (homes_in c.of-homes.result) (kept_in c.root-path.result) (written_in c.root-path.result) at there
    (c.of-homes.ensures ∙ ap (λ (l : List Holding). home_of l) c.as_slice.ensures) c.root-path.ensures.kept c.root-path.ensures.written does)
