-- What the walks over paths and rows have found so far.
use Rattle.std.specs.Prelude.{◌≡◌, Bool, true, false, List, ◌++◌, Option, Some, None}
use Rattle.pc_word.specs.declared.item.Item.{Item}
use Rattle.pc_certified.specs.Facts.{Fact}

-- these items above what is left of a path
abbrev pub with_all_above : List Item → Option (List Item) → Option (List Item)
with_all_above items None = None
with_all_above items (Some left) = Some (items ++ left)

-- lists of facts were appended to others, if there are such lists; a test says whether there are
pub data IsPut (old new : List (List Fact)) : Option (List (List Fact)) → Bool → Type 0 where
  is_put : {helds : List (List Fact)} → new ≡ old ++ helds → IsPut old new (Some helds) true
  is_none : IsPut old new None false
