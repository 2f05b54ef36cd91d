use borrow.Author.Tests.{ltb-true}
use Rattle.std.proofs.lemmas.Option.{slice_get_read}
use Rattle.std.proofs.Common.{arith, refl, ◌≡◌, ◌<◌, ℕ, length, Some, Option, ap, ◌∙◌, subst, true}
use Rattle.std.specs.Prelude.{slice_get, List, ◌↔◌}
use Rattle.pc_renaming.specs.declared.witness.Holding.{Holding}
use Rattle.pc_renaming.specs.Renaming.{StandsIn}
use Rattle.pc_renaming.specs.Witness.{home_of}
use Rattle.pc_renaming.specs.models.Tables.{homes_in, kept_in, written_in}
use Rattle.pc_renaming.proofs.Checked.{leads}
use Rattle.pc_renaming.proofs.checking.both_lead.Goals as goal

pub returns-else-row-target : goal.returns-else-row-target
returns-else-row-target c =
    let below : c.args.to < length c.args.told.now = omega (arith, ltb-true, c.in-Some.ensures.lookup) in
    let at : slice_get c.args.told.now c.args.to ≡ Some c.in-Some.row.now =
    slice_get_read c.args.told.now (length c.args.told.now) c.args.to c.in-Some.row.now refl below c.in-Some.ensures.lookup.1 in
    leads c.args.told.now (homes_in c.args.homes.now) (kept_in c.args.path.now) (written_in c.args.path.now) c.args.target c.args.to c.in-Some.row.now c.all_found.result at below
    c.if-row-target.false
    (subst (λ (h : ℕ → Option ℕ). (c.all_found.result ≡ true) ↔ ((register place : ℕ) → h register ≡ Some place
    → StandsIn (homes_in c.args.homes.now) (written_in c.args.path.now) register place (kept_in c.args.path.now register)))
    (c.of.ensures ∙ ap (λ (l : List Holding). home_of l) c.as_slice.ensures) c.all_found.ensures)
