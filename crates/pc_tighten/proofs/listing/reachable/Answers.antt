use Rattle.std.proofs.Common.{◌<◌, length, refl, sym, ◌∙◌, ap, arith}
use Rattle.std.specs.Option.{option_map}
use Rattle.std.proofs.lemmas.List.{length-map}
use Rattle.std.proofs.lemmas.Option.{slice_get_read, slice_get-map}
use Rattle.pc_tighten.specs.models.Drafts.{draft_row, draft_rows}
use Rattle.pc_tighten.specs.models.Listing.{listed_of}
use Rattle.pc_tighten.proofs.Listed.{list_begins_with, list_goes_on, are_listed, listed_within, done_within}
use Rattle.pc_tighten.proofs.listing.reachable.Goals as goal

pub loop-done-init : goal.loop-done-init
loop-done-init c =
    list_begins_with (draft_rows c.args.rows.now) (listed_of c.list_row.new.listing) c.in_ok-no_places.field-0.items c.new.result.items (length c.args.rows.now)
    (sym (length-map c.args.rows.now draft_row)) c.in_ok-no_places.ensures c.new.ensures.items c.in_ok-list_row.ensures

pub bounds-rows-row : goal.bounds-rows-row
bounds-rows-row c =
    let order = c.loop-done.listing.order.items in
    let low : c.loop-done.done < length order = omega arith in
    let next = slice_get_read order (length order) c.loop-done.done c.index.result.now refl low c.index.ensures in
    let within = listed_within (draft_rows c.args.rows.now) (listed_of c.loop-done.listing) c.loop-done.done c.loop-done.done c.index.result.now c.loop-done.invariant next in
    omega (arith, within, length-map c.args.rows.now draft_row)

pub loop-done-preserved : goal.loop-done-preserved
loop-done-preserved c =
    let order = c.loop-done.listing.order.items in
    let low : c.loop-done.done < length order = omega arith in
    let next = slice_get_read order (length order) c.loop-done.done c.index.result.now refl low c.index.ensures in
    let within = listed_within (draft_rows c.args.rows.now) (listed_of c.loop-done.listing) c.loop-done.done c.loop-done.done c.index.result.now c.loop-done.invariant next in
    let inside : c.index.result.now < length c.args.rows.now = omega (arith, within, length-map c.args.rows.now draft_row) in
    let there = slice_get_read c.args.rows.now (length c.args.rows.now) c.index.result.now c.index-rows-row.result refl inside c.index-rows-row.is in
    list_goes_on (draft_rows c.args.rows.now) (listed_of c.loop-done.listing) (listed_of c.list_targets.new.listing) c.loop-done.done c.index.result.now
    (draft_row c.index-rows-row.result) c.loop-done.invariant next
    (slice_get-map draft_row c.args.rows.now c.index.result.now ∙ ap (option_map draft_row) there) c.in_ok-list_targets.ensures

pub loop-done-smaller : goal.loop-done-smaller
loop-done-smaller c =
    let most = done_within (draft_rows c.args.rows.now) (listed_of c.loop-done.listing) c.loop-done.done c.loop-done.invariant in
    omega (arith, most, length-map c.args.rows.now draft_row)

pub returns : goal.returns
returns c = are_listed (draft_rows c.args.rows.now) (listed_of c.loop-done.listing) c.loop-done.done c.loop-done.invariant (omega arith)
