-- The row above each row: the one that alone leads to it, by one leaf.
use Rattle.std.specs.Prelude.{◌≡◌, ◌≢◌, ℕ, suc, ◌<◌, false, if◌then◌else◌, nat_eq, nat_lt, List, [], ◌∷◌, length, Option, Some, None, replicate, slice_get, slice_set}
use Rattle.std.specs.List.{count_by, list_any}
use Rattle.pc_word.specs.Row.{leaves_of}
use Rattle.pc_machine.specs.declared.tree.Leaf.{Leaf}
use Rattle.pc_machine.specs.MachineCode.{CodeRow, target_of, is_goto}
use Rattle.pc_tighten.specs.declared.parents.Parents.{Parents}
use Rattle.pc_tighten.specs.declared.parents.Naming.{Naming}
use Rattle.pc_tighten.specs.declared.parents.Naming.TheVariants.{Never, Once, Often}
use Rattle.pc_tighten.specs.models.Listing.{listed_of, AreListed}

-- named once more, by a leaf of this row
abbrev pub named_again : ℕ → Naming → Naming
named_again from Never = Once from
named_again from (Once row) = Often
named_again from Often = Often

-- the table with a row, which stood at this entry, named once more
abbrev pub put_name : ℕ → Option Naming → ℕ → List Naming → List Naming
put_name from None row table = table
put_name from (Some naming) row table = slice_set table row (named_again from naming)

-- with a row named, if there is one
abbrev pub with_some : ℕ → Option ℕ → List Naming → List Naming
with_some from (Some row) table = put_name from (slice_get table row) row table
with_some from None table = table

-- with the row named to which a leaf leads
abbrev pub with_name : ℕ → Leaf → List Naming → List Naming
with_name from leaf table = with_some from (target_of leaf) table

-- with the rows named to which leaves of a row lead
abbrev pub with_names : ℕ → List Leaf → List Naming → List Naming
with_names from [] table = table
with_names from (leaf ∷ leaves) table = with_names from leaves (with_name from leaf table)

-- and leaves of rows with these numbers on
abbrev pub with_all_names : ℕ → List CodeRow → List Naming → List Naming
with_all_names from [] table = table
with_all_names from (row ∷ rows) table = with_all_names (suc from) rows (with_names from (leaves_of row) table)

-- a leaf of the row m leads to the row t, which is neither row 0 nor m, and no other leaf does
pub record IsParent (rows : List CodeRow) (m t : ℕ) : Type 0 where
  pub row : CodeRow
  pub at : slice_get rows m ≡ Some row
  pub once : count_by (is_goto t) (leaves_of row) ≡ 1
  pub alone : (i : ℕ) (other : CodeRow) → slice_get rows i ≡ Some other → i ≢ m → list_any (is_goto t) (leaves_of other) ≡ false
  pub not_entry : t ≢ 0
  pub not_itself : t ≢ m

-- the row m, if it is listed before another
abbrev pub if_before : ℕ → Option (Option ℕ) → Option (Option ℕ) → Option ℕ
if_before m (Some (Some place)) (Some (Some other)) = if nat_lt place other then Some m else None
if_before m (Some (Some place)) (Some None) = None
if_before m (Some (Some place)) None = None
if_before m (Some None) other = None
if_before m None other = None

-- the row above t, which is named so, if it is listed before t
abbrev pub parent_by : List (Option ℕ) → ℕ → Option Naming → Option ℕ
parent_by places t (Some (Once m)) = if nat_eq t 0 then None else (if nat_eq t m then None else if_before m (slice_get places m) (slice_get places t))
parent_by places t (Some Never) = None
parent_by places t (Some Often) = None
parent_by places t None = None

-- the row above t, by the table of names and the places in the list
abbrev pub parent_in : List Naming → List (Option ℕ) → ℕ → Option ℕ
parent_in names places t = parent_by places t (slice_get names t)

-- the parents of rows: how often each is named, and those that are reachable
abbrev pub AreParents : List CodeRow → Parents → Type 0
AreParents rows it = (it.names.items ≡ with_all_names 0 rows (replicate (length rows) Never)) × AreListed rows (listed_of it.listing)

-- the parent of a row
abbrev pub parent_of : Parents → ℕ → Option ℕ
parent_of it t = parent_in it.names.items it.listing.places.items t

-- a row and its parent, which is listed before it
pub record HasParent (rows : List CodeRow) (places : List (Option ℕ)) (m t : ℕ) : Type 0 where
  pub parent : IsParent rows m t
  pub place : ℕ
  pub other : ℕ
  pub at_m : slice_get places m ≡ Some (Some place)
  pub at_t : slice_get places t ≡ Some (Some other)
  pub before : place < other

-- what stands in a table of parents is so in these rows
abbrev pub StandAbove : List CodeRow → Parents → Type 0
StandAbove rows it = (m t : ℕ) → parent_of it t ≡ Some m → HasParent rows it.listing.places.items m t
