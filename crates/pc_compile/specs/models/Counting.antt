-- What is counted while all regions are plain, and where one region gets a form.
use Rattle.std.specs.Prelude.{ℕ, ℤ, zero, ◌+◌, ◌*◌, List, [], ◌∷◌, length, Some}
use Rattle.pc_object.specs.declared.version.Version.TheVariants.{Ptv2}
use Rattle.pc_object.specs.Sizes.{header_bytes, length_bytes, initial_bytes, count_bytes, note_bytes}
use Rattle.pc_table.specs.Table.{TableTree, TableRegion, Table}
use Rattle.pc_emit.specs.Emitted.{RegionForm}
use Rattle.pc_emit.specs.Bytes.{plain_bytes, form_bytes}

-- the bytes of regions that are all plain
abbrev pub all_plain_bytes : List TableRegion → ℕ
all_plain_bytes [] = zero
all_plain_bytes (region ∷ regions) = plain_bytes region.tree + all_plain_bytes regions

-- the bytes of a table's object beside its rows
abbrev pub bytes_beside_rows : Table → (initial : List (List ℤ)) → ℕ
bytes_beside_rows table initial =
    header_bytes Ptv2 + (length_bytes * length table.arrays + initial_bytes Ptv2 initial) + (count_bytes + note_bytes * length table.loops)

-- the bytes of an object where the region with this tree has a form, and all else has so many
abbrev pub bytes_beside : (others : ℕ) → TableTree → RegionForm → ℕ
bytes_beside others tree form = others + form_bytes tree (Some form)
