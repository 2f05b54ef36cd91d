-- Lists of names without one twice, and names that are marked.
use Rattle.std.specs.Prelude.{◌≡◌, ℕ, Bool, false, if◌then◌else◌, List, [], ◌∷◌, ◌++◌, Some, slice_get, slice_index_or}
use Rattle.pc_window.specs.Rebasing.{is_in}

-- whether a name is marked
abbrev pub is_marked : List Bool → ℕ → Bool
is_marked marks name = slice_index_or marks name false

-- the names of a list that are not marked
abbrev pub unmarked : List Bool → List ℕ → List ℕ
unmarked marks [] = []
unmarked marks (x ∷ xs) = if is_marked marks x then unmarked marks xs else x ∷ unmarked marks xs

-- a list, and behind it a name that is not in it
abbrev pub and_name : List ℕ → ℕ → List ℕ
and_name found x = if is_in x found then found else found ++ x ∷ []

-- a list, and behind it each of these names that is not in it yet
abbrev pub and_names : List ℕ → List ℕ → List ℕ
and_names found [] = found
and_names found (x ∷ xs) = and_names (and_name found x) xs

-- names of which each that has a mark is marked exactly where it is in the list
pub record AreMarked (names : List ℕ) (marks : List Bool) : Type 0 where
  pub says : (name : ℕ) (mark : Bool) → slice_get marks name ≡ Some mark → is_in name names ≡ mark
