use Rattle.std.proofs.Common.{◌≡◌, ◌≤◌, length, arith, false, refl, sym, ◌∙◌, ap, Option, Some}
use Rattle.std.specs.Prelude.{slice_get, nat_eq}
use Rattle.std.proofs.lemmas.Bool.Decides.{nat_tests}
use Rattle.std.proofs.lemmas.Option.{slice_get_read}
use Rattle.pc_renaming.specs.declared.witness.RowWitness.{RowWitness}
use Rattle.pc_renaming.specs.Witness.{origin_in}
use Rattle.pc_renaming.proofs.Checked.{are_renamed, row_more, row_of_renamed}
use Rattle.pc_renaming.proofs.checking.is_renaming.Goals as goal

pub returns-clause-renamed : goal.returns-clause-renamed
returns-clause-renamed c =
    let first = c.index-told-0.result in
    let not_empty : false ≡ nat_eq (length c.args.after.now) 0 = c.if-is_empty.ensures in
    let some : 1 ≤ length c.args.after.now = grind (arith, nat_tests) in
    let as_many = c.if-told-after.false in
    let told_is : slice_get c.args.told.now 0 ≡ Some first =
    slice_get_read c.args.told.now (length c.args.told.now) 0 first refl (omega arith) c.index-told-0.is in
    let origin = ap (λ (row : RowWitness). row.origin) c.index-told-0.is ∙ c.if-told-ne0.false in
    λ e. are_renamed c.args.told.now c.args.before.now c.args.after.now c.args.registers c.loop-number.number some as_many
    (ap (λ (o : Option RowWitness). origin_in o) told_is ∙ origin) c.loop-number-test.false c.loop-number.invariant

pub loop-number-preserved : goal.loop-number-preserved
loop-number-preserved c =
    row_more c.args.told.now c.args.before.now c.args.after.now c.args.registers c.loop-number.number c.index-after-number.result
    (slice_get_read c.args.after.now (length c.args.after.now) c.loop-number.number c.index-after-number.result refl c.loop-number-test.true c.index-after-number.is)
    c.loop-number.invariant (c.does_its_origin.ensures.does c.if-not-does_its_origin.false)

pub returns-then-not-does_its_origin-clause-exact : goal.returns-then-not-does_its_origin-clause-exact
returns-then-not-does_its_origin-clause-exact c registers within as_many renamed =
    let at = slice_get_read c.args.after.now (length c.args.after.now) c.loop-number.number c.index-after-number.result refl c.loop-number-test.true c.index-after-number.is in
    let true_is = c.does_its_origin.ensures.exact registers within (rw as_many c.loop-number-test.true)
    (row_of_renamed c.args.told.now c.args.before.now c.args.after.now c.args.registers c.loop-number.number c.index-after-number.result as_many at renamed) in
    sym c.if-not-does_its_origin.true ∙ true_is
