-- A row in two parts: its items before its first test, and what stands below them.
use Rattle.std.specs.Prelude.{◌≡◌, ℕ, ◌+◌, ◌<◌, Bool, true, false, ◌||◌, List, ◌++◌, map, take, drop, Some, slice_get}
use Rattle.std.specs.List.{list_any}
use Rattle.pc_word.specs.declared.item.Item.{Item}
use Rattle.pc_word.specs.declared.item.Operand.{Operand}
use Rattle.pc_word.specs.declared.item.Limits.{Limits}
use Rattle.pc_word.specs.Row.{Then, Either, At_leaf, items_of, tests_of}
use Rattle.pc_word.specs.Items.{dest_of}
use Rattle.pc_machine.specs.MachineCode.{CodeRow, row_of}
use Rattle.pc_tighten.specs.declared.draft.Draft.{Draft}
use Rattle.pc_tighten.specs.Compact.{is_dest, is_full, comes_after, is_awaited_by, paths_to}
use Rattle.pc_tighten.specs.Moves.{below}

-- the row
abbrev pub draft_row : Draft → CodeRow
draft_row draft = below draft.items.items (row_of draft.rest)

-- rows
abbrev pub draft_rows : List Draft → List CodeRow
draft_rows drafts = map draft_row drafts

-- a row that begins with a test, or is a leaf
abbrev pub BeginsWithNoItem : CodeRow → Type 0
BeginsWithNoItem (Then item rest) = ⊥
BeginsWithNoItem (Either on on_yes on_no) = Unit {0}
BeginsWithNoItem (At_leaf leaf) = Unit {0}

-- what stands below the items of a draft begins with none: they are all that stand before the first test
abbrev pub IsSplit : Draft → Type 0
IsSplit draft = BeginsWithNoItem (row_of draft.rest)

-- whether an item comes after some item of a path to the row t
abbrev pub comes_after_path : Item → ℕ → CodeRow → Bool
comes_after_path x t above = list_any (λ path. list_any (comes_after x) path) (paths_to t above)

-- whether an item has a reason to stay, where one path leads to its row t
abbrev pub held : Limits → CodeRow → ℕ → Item → List Item → List Operand → Bool
held limits above t x others tests =
    is_full limits above x
    || (comes_after_path x t above
    || (list_any (is_awaited_by x) others || list_any (λ on. is_dest on (dest_of x)) tests))

-- the items of a row but the one at a place before its first test
abbrev pub items_but : Draft → ℕ → List Item
items_but draft i = take i draft.items.items ++ (drop (i + 1) draft.items.items ++ items_of (row_of draft.rest))

-- whether an item, the one at this place of a row t, has a reason to stay
abbrev pub held_at : Limits → Draft → ℕ → Draft → ℕ → Item → Bool
held_at limits above t under i x = held limits (draft_row above) t x (items_but under i) (tests_of (row_of under.rest))

-- the items before a place stay
abbrev pub FirstStay : Limits → Draft → ℕ → Draft → ℕ → Type 0
FirstStay limits above t under n =
    (i : ℕ) (x : Item) → i < n → slice_get under.items.items i ≡ Some x → held_at limits above t under i x ≡ true

-- the item at a place may go
abbrev pub MayGoUp : Limits → Draft → ℕ → Draft → ℕ → Type 0
MayGoUp limits above t under i =
    (x : Item) × (slice_get under.items.items i ≡ Some x) × (held_at limits above t under i x ≡ false)
