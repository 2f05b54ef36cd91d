-- A stub's region in place of the stub, in memory.
use Rattle.std.proofs.Common.{◌≡◌, ℕ, ◌+◌, ◌<◌, ◌≤◌, Option, List, sym, ◌∙◌, ap, arith}
use Rattle.std.specs.Prelude.{true}
use Rattle.pc_table.specs.Table.{Table, TableTree, region_tree}
use Rattle.pc_window.specs.declared.home.Home.{Home}
use Rattle.pc_window.specs.declared.names.NameTable.{NameTable}
use Rattle.pc_window.specs.declared.tree.WindowTree.{WindowTree}
use Rattle.pc_window.specs.Tree.{tree_size, home_of}
use Rattle.pc_window.specs.Opening.{Supply, Grafted, graft}
use Rattle.pc_window.specs.Unwinding.{most_unwound}
use Rattle.pc_window.specs.StoredWindow.{tree_in, supply_in, InNodes}
use Rattle.pc_window.specs.Grafting.{Grafts}
use Rattle.pc_unwind.specs.declared.growth.Growth.{Growth}
use Rattle.pc_unwind.specs.models.Walking.{brought_size, replacement, Replaces}
use Rattle.pc_unwind.proofs.Bringing.{graft_brings, brought_is}

module _ (table : Table) (region : ℕ) (from : TableTree) (from_is : from ≡ region_tree table region) (loop : Option ℕ) (tag : ℕ) (homes : List Home) where
  -- it has the items and tests that the region brings
  brought_of : (names : Supply) → brought_size from ≡ tree_size (replacement table loop tag region homes names).tree
  brought_of names =
      ap brought_size from_is
      ∙ sym (brought_is table loop tag (graft_brings table loop tag (region_tree table region) names (home_of homes)))

  -- with it the window would be too large
  pub refused : (names : Supply) (size more : ℕ) → more ≡ brought_size from → most_unwound < size + more
      → most_unwound < size + tree_size (replacement table loop tag region homes names).tree
  refused names size more is large = let e = brought_of names in omega arith

  -- it is not too large
  pub replaced : (old : Growth) (new : NameTable) (tree : WindowTree) (more : ℕ) → more ≡ brought_size from → old.size + more ≤ most_unwound
      → InNodes true tree → Grafts table loop tag from (supply_in old.names) (home_of homes) (tree_in tree) (supply_in new)
      → Replaces table loop tag region homes old (record { names = new; size = old.size + more; homes = tt }) tree
  replaced old new tree more is small nodes grafts =
      let same : _ ≡ replacement table loop tag region homes (supply_in old.names) = grafts ∙ (λ i. graft table loop tag (from_is i) (supply_in old.names) (home_of homes)) in
      let e = brought_of (supply_in old.names) in
      let f = ap (λ (g : Grafted). tree_size g.tree) same in
      record { grafts = same; nodes = nodes; size = omega arith; within = small }
