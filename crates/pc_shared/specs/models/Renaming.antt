-- Names in place of those that are defined above a place.
use Rattle.std.specs.Prelude.{ℕ, if◌then◌else◌, nat_eq, List, [], ◌∷◌}
use Rattle.pc_word.specs.declared.item.Item.{Item}
use Rattle.pc_word.specs.Naming.{map_name, map_operands}
use Rattle.pc_canon.specs.Pairs.{Pair}
use Rattle.pc_shared.specs.declared.renaming.Renaming.{Renaming}
use Rattle.pc_shared.specs.declared.renaming.Renaming.TheVariants.{Themselves, Defined'}

-- the pairs of names, the last one first
abbrev pub pairs_in : Renaming → List Pair
pairs_in Themselves = []
pairs_in (Defined' one other p above) = record { one = one; other = other } ∷ pairs_in above

-- the name in place of a name: that of the first pair which has it, or itself
abbrev pub renamed_name : List Pair → ℕ → ℕ
renamed_name [] x = x
renamed_name (pair ∷ pairs) x = if nat_eq pair.one x then pair.other else renamed_name pairs x

-- an item that reads the other names
abbrev pub renamed_item : List Pair → Item → Item
renamed_item pairs item = map_operands (map_name (renamed_name pairs)) item
