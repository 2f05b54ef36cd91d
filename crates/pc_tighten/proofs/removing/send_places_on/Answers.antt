use Rattle.std.proofs.Common.{◌≡◌, ◌-◌, suc, length, refl, sym, ◌∙◌, ap, subst, arith}
use Rattle.std.specs.Prelude.{slice_set}
use Rattle.pc_tighten.specs.models.Gotos.{ArePlacesFrom}
use Rattle.pc_tighten.proofs.Gotos.{ranks_are_places, place_sent_on, places_stay, goes_within}
use Rattle.pc_tighten.proofs.removing.send_places_on.Goals as goal

pub loop-row-init : goal.loop-row-init
loop-row-init c =
    let count : length c.args.it.now.places.items ≡ c.len-row.result = (let e = c.len-row.ensures in let ok = c.args.it.now.places.ok in omega (arith, e, ok)) in
    subst (ArePlacesFrom c.args.gotos.now c.args.it.now) count (ranks_are_places c.args.gotos.now c.args.it.now c.requires)

pub index_mut-requires : goal.index_mut-requires
index_mut-requires c =
    let within = goes_within c.args.gotos.now (c.loop-row.row - 1) c.in-Some.to (sym c.sent_on.ensures ∙ c.in-Some.is) in
    let size = c.loop-row.invariant.counted.size in
    let ok = c.loop-row.it.places.ok in
    omega (arith, within, size, ok)

pub loop-row-preserved-in-Some : goal.loop-row-preserved-in-Some
loop-row-preserved-in-Some c =
    let gotos = c.args.gotos.now in
    let next : c.loop-row.row ≡ suc (c.loop-row.row - 1) = (let some = c.loop-row-test.true in omega (arith, some)) in
    let to = sym c.sent_on.ensures ∙ c.in-Some.is in
    let within = goes_within gotos (c.loop-row.row - 1) c.in-Some.to to in
    let size = c.loop-row.invariant.counted.size in
    place_sent_on gotos c.loop-row.it _ (c.loop-row.row - 1) c.in-Some.to (subst (ArePlacesFrom gotos c.loop-row.it) next c.loop-row.invariant) to (omega (arith, within, size)) refl
    (ap (slice_set c.loop-row.it.places.items (c.loop-row.row - 1)) c.new_place-place.ensures)

pub loop-row-preserved : goal.loop-row-preserved
loop-row-preserved c =
    let next : c.loop-row.row ≡ suc (c.loop-row.row - 1) = (let some = c.loop-row-test.true in omega (arith, some)) in
    places_stay c.args.gotos.now c.loop-row.it (c.loop-row.row - 1) (subst (ArePlacesFrom c.args.gotos.now c.loop-row.it) next c.loop-row.invariant) (sym c.sent_on.ensures ∙ c.in-None.is)
