-- What is written of a tree, where the places of names are told by their levels.
use Rattle.std.specs.Prelude.{ℕ, ◌+◌, ◌-◌, min, ℤ, pos, List, [], ◌∷◌, ◌++◌, length, map, Option, Some, None, slice_index, slice_set}
use Rattle.pc_word.specs.Items.{dest_of}
use Rattle.pc_linear.specs.Form.{Form}
use Rattle.pc_window.specs.Tree.{Tree, Pending, Undecided, Exit, Stop_exit, Trap_exit}
use Rattle.pc_canon.specs.Canonical.{placed_item, placed_homes, constant_in, columns_of}
use Rattle.pc_canon.specs.Key.{list_numbers, operand_numbers, item_numbers, home_numbers, trap_number, constant_numbers, column_numbers}
use Rattle.pc_word.specs.Naming.{map_name}

-- ---- levels

-- the place of a name among so many: its level is how many there are from it on, and 0 for others
abbrev pub place_at : List ℕ → ℕ → ℕ → ℕ
place_at levels depth x = depth - slice_index levels x

-- levels with one name more, if there is one
abbrev pub leveled : Option ℕ → ℕ → List ℕ → List ℕ
leveled None depth levels = levels
leveled (Some dest) depth levels = slice_set levels dest (depth + 1)

-- and how many names there are then
abbrev pub deeper : Option ℕ → ℕ → ℕ
deeper None depth = depth
deeper (Some dest) depth = depth + 1

-- the levels of the names of a list, the first of which is the highest
abbrev pub levels_of : List ℕ → List ℕ → List ℕ
levels_of [] levels = levels
levels_of (x ∷ xs) levels = slice_set (levels_of xs levels) x (length xs + 1)

-- ---- trees

-- what is written of a tree
abbrev pub written : ℕ → ℕ → List ℕ → Tree → List ℤ
written first depth levels (Pending tag origin item rest) =
    pos 0 ∷ pos (tag - first) ∷ pos origin
    ∷ (item_numbers (placed_item (place_at levels depth) item) ++ written first (deeper (dest_of item) depth) (leveled (dest_of item) depth levels) rest)
written first depth levels (Undecided tag origin on on_yes on_no) =
    pos 1 ∷ pos (tag - first) ∷ pos origin
    ∷ (operand_numbers (map_name (place_at levels depth) on) ++ (written first depth levels on_yes ++ written first depth levels on_no))
written first depth levels (Exit region tag homes) =
    pos 2 ∷ pos region ∷ pos (tag - first) ∷ list_numbers home_numbers (placed_homes (place_at levels depth) homes)
written first depth levels Stop_exit = pos 3 ∷ []
written first depth levels (Trap_exit kind line) = pos 4 ∷ pos (trap_number kind) ∷ pos line ∷ []

-- ---- forms

-- what is written of the forms of parameters and of names that are defined
abbrev pub forms_numbers : List Form → List Form → List ℤ
forms_numbers parameters definitions =
    list_numbers constant_numbers (map constant_in parameters)
    ++ (list_numbers constant_numbers (map constant_in definitions) ++ list_numbers column_numbers (columns_of (parameters ++ definitions)))

-- ---- tags

-- the least of a tag and what was found before, if anything was
abbrev pub lesser : Option ℕ → ℕ → ℕ
lesser None tag = tag
lesser (Some found) tag = min found tag

-- the least of tags and what was found before
abbrev pub least_found : Option ℕ → List ℕ → Option ℕ
least_found found [] = found
least_found found (tag ∷ tags) = least_found (Some (lesser found tag)) tags
