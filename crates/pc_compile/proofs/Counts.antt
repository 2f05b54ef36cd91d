-- The items and tests of a table.
use Rattle.std.specs.Prelude.{ℕ, zero, ◌+◌, List, [], ◌∷◌}
use Rattle.pc_table.specs.Table.{TableRegion}
use Rattle.pc_table.specs.TableKeeps.{units}

-- the items and tests of regions
abbrev pub all_units : List TableRegion → ℕ
all_units [] = zero
all_units (region ∷ regions) = units region.tree + all_units regions
