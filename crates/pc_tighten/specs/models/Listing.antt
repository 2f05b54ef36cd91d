-- The rows that are reachable, in the order in which they are first reached.
use Rattle.std.specs.Prelude.{◌≡◌, ◌⊎◌, ℕ, ◌<◌, ◌≤◌, true, List, [], ◌∷◌, ◌++◌, length, Option, Some, None, is_some, slice_get, slice_set, replicate}
use Rattle.std.specs.List.{count_by, list_any}
use Rattle.pc_word.specs.Row.{leaves_of}
use Rattle.pc_machine.specs.Reachable.{IsReachable}
use Rattle.pc_machine.specs.declared.tree.Leaf.{Leaf}
use Rattle.pc_machine.specs.MachineCode.{CodeRow, target_of, is_goto}
use Rattle.pc_tighten.specs.declared.listing.Listing.{Listing}

-- the place of each row in the list, if it is there, and the rows in order
pub record Listed : Type 0 where
  pub places : List (Option ℕ)
  pub order : List ℕ

-- what a listing in memory holds
abbrev pub listed_of : Listing → Listed
listed_of it = record { places = it.places.items; order = it.order.items }

-- with a row, which stood at this entry of the table, after the others if it was not there
abbrev pub put_row : Option (Option ℕ) → ℕ → Listed → Listed
put_row (Some None) row it = record { places = slice_set it.places row (Some (length it.order)); order = it.order ++ (row ∷ []) }
put_row (Some (Some place)) row it = it
put_row None row it = it

-- with a row after the others, if it was not there
abbrev pub with_listed : ℕ → Listed → Listed
with_listed row it = put_row (slice_get it.places row) row it

-- with a row, if there is one
abbrev pub with_some : Option ℕ → Listed → Listed
with_some (Some row) it = with_listed row it
with_some None it = it

-- with the row that a leaf leads to
abbrev pub with_target : Leaf → Listed → Listed
with_target leaf it = with_some (target_of leaf) it

-- with the rows that leaves lead to
abbrev pub with_targets : List Leaf → Listed → Listed
with_targets [] it = it
with_targets (leaf ∷ leaves) it = with_targets leaves (with_target leaf it)

-- a row is there and a leaf of it leads to another
pub record LeadsFrom (rows : List CodeRow) (m t : ℕ) : Type 0 where
  pub row : CodeRow
  pub at : slice_get rows m ≡ Some row
  pub leads : list_any (is_goto t) (leaves_of row) ≡ true

-- a row other than row 0 is listed after one that leads to it
abbrev pub IsBehind : List CodeRow → Listed → ℕ → ℕ → Type 0
IsBehind rows it row place =
    (row ≡ 0) ⊎ ((m : ℕ) × (k : ℕ) × (slice_get it.places m ≡ Some (Some k)) × (k < place) × LeadsFrom rows m row)

-- table and list say the same, each row stands after one that leads to it, and of so many all that they lead to is there
pub record IsListing (rows : List CodeRow) (it : Listed) (done : ℕ) : Type 0 where
  pub size : length it.places ≡ length rows
  pub few : done ≤ length it.order
  pub as_many : length it.order ≡ count_by is_some it.places
  pub place_there : (row place : ℕ) → slice_get it.places row ≡ Some (Some place) → slice_get it.order place ≡ Some row
  pub row_there : (place row : ℕ) → slice_get it.order place ≡ Some row → slice_get it.places row ≡ Some (Some place)
  pub behind : (row place : ℕ) → slice_get it.places row ≡ Some (Some place) → IsBehind rows it row place
  pub closed : (place m t : ℕ) → place < done → slice_get it.order place ≡ Some m → LeadsFrom rows m t → t < length rows
      → (k : ℕ) × (slice_get it.places t ≡ Some (Some k))

-- no row of so many is listed
abbrev pub nothing_listed : ℕ → Listed
nothing_listed count = record { places = replicate count None; order = [] }

-- each row that is reachable and there is listed
abbrev pub AllListed : List CodeRow → Listed → Type 0
AllListed rows it = (m : ℕ) → IsReachable rows m → m < length rows → (k : ℕ) × (slice_get it.places m ≡ Some (Some k))

-- the reachable rows, listed
pub record IsList (rows : List CodeRow) (it : Listed) (done : ℕ) : Type 0 where
  pub listing : IsListing rows it done
  pub entry : 0 < length rows → (k : ℕ) × (slice_get it.places 0 ≡ Some (Some k))

-- each row stands after one that leads to it, and each that is reachable is there
pub record AreListed (rows : List CodeRow) (it : Listed) : Type 0 where
  pub size : length it.places ≡ length rows
  pub place_there : (row place : ℕ) → slice_get it.places row ≡ Some (Some place) → slice_get it.order place ≡ Some row
  pub row_there : (place row : ℕ) → slice_get it.order place ≡ Some row → slice_get it.places row ≡ Some (Some place)
  pub behind : (row place : ℕ) → slice_get it.places row ≡ Some (Some place) → IsBehind rows it row place
  pub all : AllListed rows it
