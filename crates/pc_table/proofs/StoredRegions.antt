-- Regions of tables in memory.
use Rattle.std.proofs.Common.{◌≡◌, ℕ, suc, List, [], ◌∷◌, Some, length, ◌≤◌, ◌<◌, refl, ap, ◌∙◌, subst, arith}
use Rattle.std.specs.Prelude.{map, slice_get, option_map}
use Rattle.std.proofs.lemmas.Option.{slice_get-map}
use Rattle.pc_table.specs.declared.table.Region.{Region}
use Rattle.pc_table.specs.declared.table.RegionTable.{RegionTable}
use Rattle.pc_table.specs.Table.{table_tree, table_region}
use Rattle.pc_table.specs.StoredTable.{table_of}
use Rattle.pc_table.specs.TableKeeps.{TreeIsThere, units, most_region_nodes}

pub as_many : (regions : List Region) → length (map table_region regions) ≡ length regions
as_many [] = refl
as_many (region ∷ regions) = ap suc (as_many regions)

-- region 0 is there
pub some_region : (table : RegionTable) → 0 < length table.regions
some_region table = let many = as_many table.regions in let some = table.kept.some_region in omega (arith, many, some)

module _ (table : RegionTable) (number : ℕ) (region : Region) (at : slice_get table.regions number ≡ Some region) where
  stands : slice_get (table_of table).regions number ≡ Some (table_region region)
  stands = slice_get-map table_region table.regions number ∙ ap (option_map table_region) at

  -- what its tree names is there
  pub tree_there : TreeIsThere (length table.arrays) (length table.regions) (table_tree region.tree)
  tree_there =
      subst (λ (regions : ℕ). TreeIsThere (length table.arrays) regions (table_tree region.tree)) (as_many table.regions)
      (table.kept.each number (table_region region) stands).there

  -- its tree is not too large
  pub tree_few : units (table_tree region.tree) ≤ most_region_nodes
  tree_few = (table.kept.each number (table_region region) stands).few

pub ruleset trees = (tree_there, tree_few)
