-- Items that go up.
use Rattle.std.specs.Prelude.{◌≡◌, ℕ, suc, ◌+◌, ◌*◌, ◌<◌, ◌≤◌, Bool, true, false, List, [], ◌∷◌, map, length, Option, Some, None, slice_get, slice_set}
use Rattle.std.specs.List.{AllByRecursion, remove}
use Rattle.pc_word.specs.declared.item.Item.{Item}
use Rattle.pc_word.specs.declared.item.Limits.{Limits}
use Rattle.pc_word.specs.Row.{items_of, leaves_of}
use Rattle.pc_machine.specs.MachineCode.{CodeRow, RowCode, row_of}
use Rattle.pc_tighten.specs.declared.draft.Draft.{Draft}
use Rattle.pc_tighten.specs.Compact.{Compact}
use Rattle.pc_tighten.specs.Moves.{below, with_item}
use Rattle.pc_tighten.specs.Tightened.{ByMoves}
use Rattle.pc_tighten.specs.models.Drafts.{draft_row, draft_rows, IsSplit, FirstStay, MayGoUp}
use Rattle.pc_tighten.specs.declared.parents.Parents.{Parents}
use Rattle.pc_tighten.specs.models.Parents.{parent_of}

-- the place of a row in the list of reachable ones, and 0 of another
abbrev pub place_by : Option (Option ℕ) → ℕ
place_by (Some (Some place)) = place
place_by (Some None) = 0
place_by None = 0

-- so by the table of places
abbrev pub place_of : List (Option ℕ) → ℕ → ℕ
place_of places row = place_by (slice_get places row)

-- the places of all items together, of rows with these numbers on: it falls with each item that goes up
abbrev pub weigh : (ℕ → ℕ) → ℕ → List CodeRow → ℕ
weigh place number [] = 0
weigh place number (row ∷ rows) = place number * length (items_of row) + weigh place (suc number) rows

-- the code of these rows, under these limits and else like a code
abbrev pub code_with : Limits → RowCode → List CodeRow → RowCode
code_with limits like rows = record like { limits = limits; rows = rows }

-- rows come from others by moves, of which there are at least so many
pub record Raises (limits : Limits) (places : List (Option ℕ)) (moves : ℕ) (old new : List Draft) : Type 0 where
  pub moves_up : (like : RowCode) → ByMoves (code_with limits like (draft_rows old)) (code_with limits like (draft_rows new))
  pub leaves : map leaves_of (draft_rows new) ≡ map leaves_of (draft_rows old)
  pub lower : weigh (place_of places) 0 (draft_rows new) + moves ≤ weigh (place_of places) 0 (draft_rows old)
  pub split : AllByRecursion IsSplit old → AllByRecursion IsSplit new

-- the item at a place of the row t may go to the row m
pub record CanRise (limits : Limits) (rows : List Draft) (m t i : ℕ) : Type 0 where
  pub above : Draft
  pub under : Draft
  pub at_m : slice_get rows m ≡ Some above
  pub at_t : slice_get rows t ≡ Some under
  pub free : MayGoUp limits above t under i

-- the item at a place of the row t has gone to the row m
pub record MovesUp (old new : List Draft) (m t i : ℕ) : Type 0 where
  pub rows : (above under : Draft) (x : Item) → slice_get old m ≡ Some above → slice_get old t ≡ Some under → slice_get under.items.items i ≡ Some x
      → draft_rows new ≡ slice_set (slice_set (draft_rows old) m (with_item t x (draft_row above))) t (below (remove under.items.items i) (row_of under.rest))
  pub split : AllByRecursion IsSplit old → AllByRecursion IsSplit new

-- an item that may go to the row above its row
abbrev pub MayRise : Limits → Parents → List Draft → ℕ → ℕ → ℕ → Type 0
MayRise limits it rows m t i = (parent_of it t ≡ Some m) × CanRise limits rows m t i

-- each item of a row before its first test stays, where it has a row above
abbrev pub IsSettled : Limits → Parents → List Draft → ℕ → Type 0
IsSettled limits it rows t =
    (m : ℕ) (above under : Draft) → parent_of it t ≡ Some m → slice_get rows m ≡ Some above → slice_get rows t ≡ Some under
    → FirstStay limits above t under (length under.items.items)

-- so far: some item went up, or nothing changed
abbrev pub HasRaised : Limits → Parents → List Draft → List Draft → Bool → Type 0
HasRaised limits it old new true = Raises limits it.listing.places.items 1 old new
HasRaised limits it old new false = new ≡ old

-- and where nothing changed, these rows are settled
abbrev pub AreSettledIf : Limits → Parents → (ℕ → Type 0) → List Draft → Bool → Type 0
AreSettledIf limits it Among rows true = Unit {0}
AreSettledIf limits it Among rows false = (t : ℕ) → Among t → IsSettled limits it rows t

-- a row in the list of reachable ones, at a place below this one
abbrev pub IsAmongFirst : List ℕ → ℕ → ℕ → Type 0
IsAmongFirst order n t = (k : ℕ) × (k < n) × (slice_get order k ≡ Some t)

-- each row in the list is one of so many
abbrev pub AreWithin : List ℕ → ℕ → Type 0
AreWithin order count = (k row : ℕ) → slice_get order k ≡ Some row → row < count

-- rows come from others by moves, and what is left stays
pub record IsRaised (limits : Limits) (old new : List CodeRow) : Type 0 where
  pub moves_up : (like : RowCode) → ByMoves (code_with limits like old) (code_with limits like new)
  pub compact : (like : RowCode) → Compact (code_with limits like new)
