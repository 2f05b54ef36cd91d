use Rattle.std.proofs.Common.{List, Bool, Option, sym, subst}
use Rattle.pc_window.specs.Filled.{Filled}
use Rattle.pc_window.specs.StoredWindow.{window_in}
use Rattle.pc_window.specs.declared.window.Window.{Window as StoredWindow}
use Rattle.pc_fill.specs.declared.walk.Found.{Found}
use Rattle.pc_fill.specs.models.Places.{known_in}
use Rattle.pc_fill.specs.models.CanFill.{GrowsTo}
use Rattle.pc_fill.specs.models.Walk.{FindsFirst, found_at}
use Rattle.pc_fill.proofs.Landed.{ok_all}
use Rattle.pc_fill.proofs.Jumps.{filling_small, names_left, is_full, less_room, can_go_on, fills_on, grows_on}
use Rattle.pc_fill.proofs.filling.+fill_on.Goals as goal

pub first_known-requires : goal.first_known-requires
first_known-requires t c = record { small = filling_small (known_in c.args.known.now) c.args.window c.requires.can; in_order = c.requires.in_order }

pub returns-in_default-clause-fills : goal.returns-in_default-clause-fills
returns-in_default-clause-fills t c =
    let known = known_in c.args.known.now in let w = c.args.window in
    is_full known w c.requires.can (subst (λ (o : Option Found). FindsFirst known (window_in w) o c.in_ok-search.search.way.items) c.in_default.is c.in_ok-search.ensures)

pub jump-requires : goal.jump-requires
jump-requires t c =
    let known = known_in c.args.known.now in let w = c.args.window in
    let first = subst (λ (o : Option Found). FindsFirst known (window_in w) o c.in_ok-search.search.way.items) c.in-Some.is c.in_ok-search.ensures in
    let left = names_left known w c.requires.can (found_at c.in-Some.found first.0) first.2 in
    record { small = filling_small known w c.requires.can; nodes = c.requires.can.nodes; names = left.0; variables = left.1 }

pub fill_on-requires : goal.fill_on-requires
fill_on-requires t c =
    let known = known_in c.args.known.now in let w = c.args.window in let next = c.in_ok-next.next in let came = c.in_ok-next.ensures in
    let first = subst (λ (o : Option Found). FindsFirst known (window_in w) o c.deref.result.now) c.in-Some.is
    (subst (λ (way : List Bool). FindsFirst known (window_in w) c.in_ok-search.search.best way) (sym c.deref.ensures.value) c.in_ok-search.ensures) in
    let ready = found_at c.in-Some.found first.0 in
    let come = came.come first.0 first.1 in (
      less_room known w c.requires.can ready first.2 next come c.decreases,
      (can_go_on known w c.requires.can ready first.2 next come came.nodes came.count came.variables, λ e. came.in_order (c.requires.in_order e)),
    )

pub returns-clause-fills : goal.returns-clause-fills
returns-clause-fills t c =
    let known = known_in c.args.known.now in let w = c.args.window in let next = c.in_ok-next.next in let came = c.in_ok-next.ensures in
    let first = subst (λ (o : Option Found). FindsFirst known (window_in w) o c.deref.result.now) c.in-Some.is
    (subst (λ (way : List Bool). FindsFirst known (window_in w) c.in_ok-search.search.best way) (sym c.deref.ensures.value) c.in_ok-search.ensures) in
    let ready = found_at c.in-Some.found first.0 in
    ok_all (λ (later : StoredWindow). Filled known (window_in next) (window_in later)) (λ later. Filled known (window_in w) (window_in later)) c.fill_on.result
    (λ later filled. fills_on known w c.requires.can ready first.2 next (came.come first.0 first.1) later filled) c.fill_on.ensures.fills

pub returns-clause-grows : goal.returns-clause-grows
returns-clause-grows t c =
    let known = known_in c.args.known.now in let w = c.args.window in let next = c.in_ok-next.next in let came = c.in_ok-next.ensures in
    let first = subst (λ (o : Option Found). FindsFirst known (window_in w) o c.deref.result.now) c.in-Some.is
    (subst (λ (way : List Bool). FindsFirst known (window_in w) c.in_ok-search.search.best way) (sym c.deref.ensures.value) c.in_ok-search.ensures) in
    let ready = found_at c.in-Some.found first.0 in
    ok_all (GrowsTo next) (GrowsTo w) c.fill_on.result
    (λ later h. grows_on known w c.requires.can ready first.2 next (came.come first.0 first.1) came.count came.variables later h) c.fill_on.ensures.grows
