-- What stands in a node, what it passes on its way up into the node above, and what it conflicts with there.
use Rattle.std.specs.Prelude.{ℕ, ◌-◌, Bool, true, false, if◌then◌else◌, nat_eq, nat_lt, List, [], ◌∷◌, Option, Some, None}
use Rattle.std.specs.List.{list_any}
use Rattle.pc_word.specs.declared.item.Item.{Item}
use Rattle.pc_word.specs.declared.item.Operand.{Operand}
use Rattle.pc_word.specs.declared.item.Operand.TheVariants.{Name, Lit}
use Rattle.pc_word.specs.Items.{dest_of, is_effect}
use Rattle.pc_word.specs.Commit.{writes}
use Rattle.pc_linear.specs.Form.{Form}
use Rattle.pc_window.specs.declared.conflict.Touch.{Touch}
use Rattle.pc_window.specs.Conflict.{touch_of, NoDependence, NoStoreDependence}
use Rattle.pc_moveop.specs.NodeTree.{NodeTree, Item_node, Test_node, Leads_to, Leads_out, node_size, leaf_count}

-- what is passed: an item, which is finished where it is one of the node above and else stands in the same node; or a test there
pub data Passed : Type 0 where
  Passed_item : (finished : Bool) → (origin : ℕ) → (item : Item) → Passed
  Passed_test : Passed

-- an item, and all that it passes, from above
pub record Mover : Type 0 where
  pub tag : ℕ
  pub origin : ℕ
  pub item : Item
  pub way : List Passed

-- one more is passed, above the others
abbrev pub passing : Passed → Option Mover → Option Mover
passing what (Some m) = Some (record { tag = m.tag; origin = m.origin; item = m.item; way = what ∷ m.way })
passing what None = None

-- the item at a preorder place of a node, and what it passes there
abbrev pub mover_in : ℕ → NodeTree → Option Mover
mover_in place (Item_node tag origin item rest) =
    if nat_eq place 0 then Some (record { tag = tag; origin = origin; item = item; way = [] }) else passing (Passed_item false origin item) (mover_in (place - 1) rest)
mover_in place (Test_node tag origin on on_yes on_no) =
    if nat_eq place 0 then None
    else if nat_lt (place - 1) (node_size on_yes) then passing Passed_test (mover_in (place - 1) on_yes)
    else passing Passed_test (mover_in (place - 1 - node_size on_yes) on_no)
mover_in place (Leads_to below) = None
mover_in place (Leads_out out) = None

-- the item at a place of the node that a leaf leads to, and what it passes on its way to the end of the path above that leaf
abbrev pub mover_at : (leaf place : ℕ) → NodeTree → Option Mover
mover_at leaf place (Item_node tag origin item rest) = passing (Passed_item true origin item) (mover_at leaf place rest)
mover_at leaf place (Test_node tag origin on on_yes on_no) =
    if nat_lt leaf (leaf_count on_yes) then mover_at leaf place on_yes else mover_at (leaf - leaf_count on_yes) place on_no
mover_at leaf place (Leads_to below) = if nat_eq leaf 0 then mover_in place below else None
mover_at leaf place (Leads_out out) = None

-- ---- what it meets

-- whether a name is defined by what is passed
abbrev pub defines : ℕ → Passed → Bool
defines name (Passed_item finished origin item) = writes (dest_of item) name
defines name Passed_test = false

-- whether an operand is a name that is defined by what is passed
abbrev pub defines_operand : Option Operand → Passed → Bool
defines_operand (Some (Name name)) what = defines name what
defines_operand (Some (Lit value)) what = false
defines_operand None what = false

-- the first operand that is defined by what is passed
abbrev pub first_defined : List Operand → List Passed → Option ℕ
first_defined [] way = None
first_defined (Name name ∷ operands) way = if list_any (defines name) way then Some name else first_defined operands way
first_defined (Lit value ∷ operands) way = first_defined operands way

-- as far as loads and stores go, an item may come to stand before another; or right behind it, where that one is finished
abbrev pub MayPass : (ℕ → Form) → (finished : Bool) → Option Touch → Option Touch → Type 0
MayPass forms true above touch = NoStoreDependence forms above touch
MayPass forms false above touch = NoDependence forms above touch

-- the origin of the first load or store that an item may not pass, if there is one
pub data FirstConflict (forms : ℕ → Form) (x : Item) : List Passed → Option ℕ → Type 0 where
  No_conflict : FirstConflict forms x [] None
  Passes_test : (way : List Passed) (found : Option ℕ) → FirstConflict forms x way found → FirstConflict forms x (Passed_test ∷ way) found
  Passes_item : (finished : Bool) (origin : ℕ) (item : Item) (way : List Passed) (found : Option ℕ) → MayPass forms finished (touch_of item) (touch_of x)
      → FirstConflict forms x way found → FirstConflict forms x (Passed_item finished origin item ∷ way) found
  Conflicts : (finished : Bool) (origin : ℕ) (item : Item) (way : List Passed) → (MayPass forms finished (touch_of item) (touch_of x) → ⊥)
      → FirstConflict forms x (Passed_item finished origin item ∷ way) (Some origin)

-- whether a test is passed
abbrev pub is_test : Passed → Bool
is_test (Passed_item finished origin item) = false
is_test Passed_test = true

-- whether a print, read or more is
abbrev pub has_effect : Passed → Bool
has_effect (Passed_item finished origin item) = is_effect item
has_effect Passed_test = false

-- whether a test stands before an item
abbrev pub crosses_test : Mover → Bool
crosses_test m = list_any is_test m.way
