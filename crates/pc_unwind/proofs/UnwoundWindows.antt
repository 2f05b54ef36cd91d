-- Windows in memory that are unwound.
use Rattle.std.proofs.Common.{◌≡◌, ℕ, ◌+◌, ◌^◌, length, refl, sym, ◌∙◌, ap, subst, arith}
use Rattle.std.specs.Prelude.{true}
use Rattle.pc_table.specs.declared.table.RegionTable.{RegionTable}
use Rattle.pc_table.specs.StoredTable.{table_of}
use Rattle.pc_window.specs.declared.tree.WindowTree.{WindowTree}
use Rattle.pc_window.specs.declared.window.Window.{Window as StoredWindow}
use Rattle.pc_window.specs.Tree.{Tree, whole, tree_size}
use Rattle.pc_window.specs.Opening.{Grafted}
use Rattle.pc_window.specs.Unwinding.{Unwinds}
use Rattle.pc_window.specs.Steps.{UnwindsTo}
use Rattle.pc_window.specs.StoredWindow.{tree_in, front_in, supply_in, window_in, InNodes}
use Rattle.pc_window.proofs.WindowsStored.{single_window, whole_in}
use Rattle.pc_unwind.specs.declared.growth.Growth.{Growth}
use Rattle.pc_unwind.specs.models.Named.{TagsAtMost, StubsAreThere}
use Rattle.pc_unwind.specs.Unwindable.{CanUnwind}
use Rattle.pc_unwind.specs.models.Walking.{with_growth, HasRoom, RootStaysAtMost, most_root_tag}
use Rattle.pc_table.proofs.StoredRegions.{as_many}
use Rattle.pc_unwind.proofs.PartsThere.{tags_of, stubs_of}
use Rattle.pc_unwind.proofs.TagWalks.{tags_stay, root_stays}

module _ (table : RegionTable) (w : StoredWindow) (single : WindowTree) (same : tree_in single ≡ tree_in w.tree) where
  is_whole : whole (front_in w.tree) ≡ tree_in single
  is_whole = whole_in w.tree ∙ sym same

  pub single_size : (size : ℕ) → size ≡ tree_size (whole (front_in w.tree)) → size ≡ tree_size (tree_in single)
  single_size size is = is ∙ ap tree_size is_whole

  pub single_stubs : CanUnwind (table_of table) (window_in w) → StubsAreThere (table_of table) (tree_in single)
  single_stubs able = subst (StubsAreThere (table_of table)) is_whole (stubs_of (table_of table) (2 ^ 30) (whole (front_in w.tree)) able.parts)

  pub single_room : (size : ℕ) → size ≡ tree_size (whole (front_in w.tree)) → CanUnwind (table_of table) (window_in w) → HasRoom (record { names = w.names; size = size; homes = tt })
  single_room size is able = let few = able.size in let names = able.names in let variables = able.variables in record { size = omega arith; names = omega arith; variables = omega arith }

  pub single_root : CanUnwind (table_of table) (window_in w) → RootStaysAtMost (table_of table) most_root_tag (tree_in single)
  single_root able =
      let few = table.few in
      let e = as_many table.regions in
      root_stays (table_of table) (2 ^ 30 + length (table_of table).regions) most_root_tag (tree_in single) (omega arith)
      (tags_stay (table_of table) table.kept (2 ^ 30) (tree_in single) (subst (TagsAtMost (2 ^ 30)) is_whole (tags_of (table_of table) (2 ^ 30) (whole (front_in w.tree)) able.parts)))

  pub unwinds_to : (number size : ℕ) (later : WindowTree) (growth : Growth) → InNodes true later
      → Unwinds (table_of table) w.inside number (with_growth (tree_in single) (record { names = w.names; size = size; homes = tt })) (with_growth (tree_in later) growth)
      → UnwindsTo (table_of table) number (window_in w) (window_in (record { tree = later; names = growth.names; limits = w.limits; inside = w.inside }))
  unwinds_to number size later growth nodes u = record {
    unwound = with_growth (tree_in later) growth;
    unwinds = subst (λ (tree : Tree). let g : Grafted = record { tree = tree; names = supply_in w.names } in Unwinds (table_of table) w.inside number g (with_growth (tree_in later) growth))
        (sym is_whole) u;
    is = single_window later growth.names w.limits w.inside (with_growth (tree_in later) growth) refl nodes;
  }
