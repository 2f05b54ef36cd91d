use Rattle.std.proofs.Common.{◌≡◌, ℕ, ◌+◌, ◌≤◌, ap, arith}
use Rattle.pc_window.specs.Names.{uses}
use Rattle.pc_window.specs.Tree.{whole, tree_size}
use Rattle.pc_window.specs.declared.window.Window.{Window as StoredWindow}
use Rattle.pc_window.specs.StoredWindow.{tree_in, front_in}
use Rattle.pc_window.proofs.WindowsStored.{whole_in}
use Rattle.pc_fill.proofs.Searching.{none_found, first_found}
use Rattle.pc_fill.proofs.first.first_ready.Goals as goal

-- a window has one size, whether its nodes count or not
same_size : (w : StoredWindow) → tree_size (whole (front_in w.tree)) ≡ tree_size (tree_in w.tree)
same_size w = ap tree_size (whole_in w.tree)

at_end : (w : StoredWindow) (place end : ℕ) → end ≡ tree_size (whole (front_in w.tree)) → place ≤ end → end ≤ place → place ≡ 0 + tree_size (tree_in w.tree)
at_end w place end size within past = let same = same_size w in omega arith

pub count_front-counts-requires : goal.count_front-counts-requires
count_front-counts-requires c = let same = same_size c.args.window.now in omega (arith, c.requires.small)

pub first_with-first-requires-clause-small : goal.first_with-first-requires-clause-small
first_with-first-requires-clause-small c = let same = same_size c.args.window.now in omega (arith, c.requires.small)

pub first_with-first-requires-clause-place : goal.first_with-first-requires-clause-place
first_with-first-requires-clause-place c = let same = same_size c.args.window.now in omega (arith, c.size-place-end.ensures, c.loop-place-test.true)

pub returns-clause-first : goal.returns-clause-first
returns-clause-first c =
    let w = c.args.window.now in
    first_found (uses (whole (front_in w.tree))) w c.loop-place.place c.loop-place.first
    (at_end w c.loop-place.place c.size-place-end.result c.size-place-end.ensures c.loop-place.auto.place-end c.loop-place-test.false) c.loop-place.invariant

pub returns-clause-none : goal.returns-clause-none
returns-clause-none c =
    let w = c.args.window.now in
    none_found (uses (whole (front_in w.tree))) w c.loop-place.place c.loop-place.first
    (at_end w c.loop-place.place c.size-place-end.result c.size-place-end.ensures c.loop-place.auto.place-end c.loop-place-test.false) c.loop-place.invariant
