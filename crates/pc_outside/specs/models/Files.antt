-- Files in memory, as the map from their names to their bytes that a shelf shows.
use Rattle.std.specs.Prelude.{ℕ, map as list_map, string_bytes, String, Vec}
use Rattle.std.specs.FinMap as map
use Rattle.std.specs.BTreeMap.{BTreeMap}
use Rattle.std.specs.declared.alloc.Global.{Global}
use Rattle.pc_outside.specs.Shelf.{Files}

-- the files of a map from names to bytes
abbrev pub files_of : BTreeMap (String Global) (Vec ℕ Global) → Files
files_of m = map.from_entries (list_map (λ e. (string_bytes e.0, e.1.items)) m.entries)
