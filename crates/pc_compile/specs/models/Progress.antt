-- What is kept while forms are chosen.
use Rattle.std.specs.Prelude.{◌≡◌, ◌≤◌, ℤ, List, length}
use Rattle.pc_word.specs.declared.item.Limits.{Limits}
use Rattle.pc_word.specs.declared.item.Extent.{Extent}
use Rattle.pc_word.specs.MachineLimits.{most_object}
use Rattle.pc_table.specs.Table.{Table}
use Rattle.pc_emit.specs.Emitting.{region_forms}
use Rattle.pc_emit.specs.Bytes.{object_bytes}
use Rattle.pc_compile.specs.declared.choosing.Progress.{Progress}
use Rattle.pc_compile.specs.Choosing.{Choosing}

-- the regions that were found and what was chosen for those that were taken
pub record IsChoosing (table : Table) (initial : List (List ℤ)) (limits : Limits) (extent : Extent) (it : Progress) : Type 0 where
  pub choosing : Choosing table initial limits extent it.found.order it.chosen.choices (region_forms it.chosen.forms)
  pub counted : it.chosen.bytes ≡ object_bytes table initial (region_forms it.chosen.forms)
  pub short : it.chosen.bytes ≤ most_object
  pub forms : length it.chosen.forms ≡ length table.regions
  pub marks : length it.found.marks ≡ length table.regions

-- the same with some data of the arrays
pub record IsChoosingWithSome (table : Table) (limits : Limits) (extent : Extent) (it : Progress) : Type 0 where
  pub initial : List (List ℤ)
  pub choosing : IsChoosing table initial limits extent it
