-- When a code is compact: no item before the first test of a row could stand one row earlier.
use Rattle.std.specs.Prelude.{◌≡◌, ◌≢◌, ℕ, Bool, true, false, if◌then◌else◌, ◌&&◌, ◌||◌, nat_eq}
use Rattle.std.specs.Prelude.{nat_le, List, [], ◌∷◌, ◌++◌, map, length, Option, Some, None, slice_get}
use Rattle.std.specs.List.{AllByRecursion, count_by, list_any}
use Rattle.pc_word.specs.declared.item.Item.{Item}
use Rattle.pc_word.specs.declared.item.Item.TheVariants.{Bin, Copy, Load, Store, Print, Read, More}
use Rattle.pc_word.specs.declared.item.Operand.{Operand}
use Rattle.pc_word.specs.declared.item.Operand.TheVariants.{Name, Lit}
use Rattle.pc_word.specs.declared.item.Limits.{Limits}
use Rattle.pc_machine.specs.MachineCode.{CodeRow, RowCode, is_goto}
use Rattle.pc_machine.specs.Reachable.{IsReachable}
use Rattle.pc_word.specs.Row.{Then, Either, At_leaf, items_of, tests_of, leaves_of}
use Rattle.pc_word.specs.Items.{dest_of, is_memory, is_effect}
use Rattle.pc_word.specs.Commit.{writes}

-- ---- what an item reads and touches

-- whether an operand is the register that is written, if any
abbrev pub is_dest : Operand → Option ℕ → Bool
is_dest (Name register) dest = writes dest register
is_dest (Lit value) dest = false

-- whether an item reads the register that is written, if any
abbrev pub reads_dest : Item → Option ℕ → Bool
reads_dest (Bin op to left right) dest = is_dest left dest || is_dest right dest
reads_dest (Copy to from) dest = is_dest from dest
reads_dest (Load to array index) dest = is_dest index dest
reads_dest (Store array index value) dest = is_dest index dest || is_dest value dest
reads_dest (Print value) dest = is_dest value dest
reads_dest (Read to) dest = false
reads_dest (More to) dest = false

-- whether two items write one register
abbrev pub writes_both : Option ℕ → Option ℕ → Bool
writes_both first None = false
writes_both first (Some register) = writes first register

-- whether an item is a load from this array
abbrev pub loads : ℕ → Item → Bool
loads array (Load to other index) = nat_eq array other
loads array _ = false

-- whether an item is a store to this array
abbrev pub stores : ℕ → Item → Bool
stores array (Store other index value) = nat_eq other array
stores array _ = false

-- whether an item stores to the array that another loads or stores
abbrev pub stores_under : Item → Item → Bool
stores_under x (Load to array index) = stores array x
stores_under x (Store array index value) = stores array x
stores_under x _ = false

-- whether an item stores to an array from which another loads
abbrev pub is_loaded_by : Item → Item → Bool
is_loaded_by (Store array index value) y = loads array y
is_loaded_by _ y = false

-- ---- why an item x stays in its row, to which a leaf of the row `above` leads

-- the row above is full: it has as many items as a row may have, or x is a load or store and it has as many of these
abbrev pub is_full : Limits → CodeRow → Item → Bool
is_full limits above x = nat_le limits.ops (length (items_of above)) || (is_memory x && nat_le limits.mem (count_by is_memory (items_of above)))

-- an item y on the path to that leaf writes a register that x reads or writes
abbrev pub hangs_on : Item → Item → Bool
hangs_on x y = reads_dest x (dest_of y) || writes_both (dest_of y) (dest_of x)

-- x comes after an item y on that path: it hangs on y, y stores to the array that x loads or stores, or both print,
-- read or ask for more
abbrev pub comes_after : Item → Item → Bool
comes_after x y = hangs_on x y || (stores_under y x || (is_effect x && is_effect y))

-- x may not come before another item y of its own row: y reads what x writes, or loads from the array that x stores to
abbrev pub is_awaited_by : Item → Item → Bool
is_awaited_by x y = reads_dest y (dest_of x) || is_loaded_by x y

-- x has a reason to stay: the row above is full, x comes after an item of the path, another item of its row awaits it,
-- or a test of its row reads what x writes
abbrev pub stays : Limits → CodeRow → List Item → Item → List Item → List Operand → Bool
stays limits above path x others tests =
    is_full limits above x
    || (list_any (comes_after x) path
    || (list_any (is_awaited_by x) others || list_any (λ on. is_dest on (dest_of x)) tests))

-- ---- which row is above

-- the items on each path of a row to a leaf that leads to the row t
abbrev pub paths_to : ℕ → CodeRow → List (List Item)
paths_to t (Then item rest) = map (λ path. item ∷ path) (paths_to t rest)
paths_to t (Either on on_yes on_no) = paths_to t on_yes ++ paths_to t on_no
paths_to t (At_leaf leaf) = if is_goto t leaf then [] ∷ [] else []

-- one leaf of this row, which has the number m, leads to t, and no other row has a leaf that does
pub record OnlyFrom (code : RowCode) (m t : ℕ) (row : CodeRow) : Type 0 where
  pub once : count_by (is_goto t) (leaves_of row) ≡ 1
  pub alone : (i : ℕ) (other : CodeRow) → slice_get code.rows i ≡ Some other → i ≢ m → list_any (is_goto t) (leaves_of other) ≡ false

-- a row t, and the row m above it: a leaf of m leads to t, and no other leaf of the code does
pub record IsPair (code : RowCode) (m t : ℕ) (above under : CodeRow) : Type 0 where
  pub at_m : slice_get code.rows m ≡ Some above
  pub at_t : slice_get code.rows t ≡ Some under
  pub only : OnlyFrom code m t above
  pub not_entry : t ≢ 0
  pub not_itself : t ≢ m

-- ---- compact

-- each item of a row before its first test has a reason to stay; `before` are the items that stand before these
abbrev pub EachStays : Limits → CodeRow → List Item → List Item → CodeRow → Type 0
EachStays limits above path before (Then x rest) =
    (stays limits above path x (before ++ items_of rest) (tests_of rest) ≡ true) × EachStays limits above path (before ++ (x ∷ [])) rest
EachStays limits above path before (Either on on_yes on_no) = Unit {0}
EachStays limits above path before (At_leaf leaf) = Unit {0}

-- compact: below each row that is reachable, where one leaf alone leads to a row, all items before its first test stay
abbrev pub Compact : RowCode → Type 0
Compact code =
    (m t : ℕ) (above under : CodeRow) → IsReachable code.rows m → IsPair code m t above under
    → AllByRecursion (λ path. EachStays code.limits above path [] under) (paths_to t above)
