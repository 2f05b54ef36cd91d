-- When two items conflict, by the forms of their indexes.
use Rattle.std.specs.Prelude.{ℕ, ◌≡◌, true, false, ◌&&◌, ◌||◌, Option, Some, None}
use Rattle.pc_word.specs.declared.item.Item.{Item}
use Rattle.pc_word.specs.declared.item.Item.TheVariants.{Load, Store}
use Rattle.pc_word.specs.Items.{is_effect}
use Rattle.pc_linear.specs.Form.{Form}
use Rattle.pc_linear.specs.Equality.{NeverEqual}
use Rattle.pc_window.specs.declared.conflict.Touch.{Touch}
use Rattle.pc_window.specs.Hold.{operand_form}

-- what an item touches: nothing, unless it is a load or store
abbrev pub touch_of : Item → Option Touch
touch_of (Load dest array index) = Some (record { array = array; index = index; stores = false })
touch_of (Store array index value) = Some (record { array = array; index = index; stores = true })
touch_of _ = None

-- the two may be exchanged: where they touch one array and one of them stores, the forms of their indexes are never equal
abbrev pub NoDependence : (ℕ → Form) → Option Touch → Option Touch → Type 0
NoDependence forms (Some a) (Some b) =
    a.array ≡ b.array → (a.stores || b.stores) ≡ true → NeverEqual (operand_form forms a.index) (operand_form forms b.index)
NoDependence forms (Some a) None = Unit {0}
NoDependence forms None touch = Unit {0}

-- the second may stand behind the first in one row: the same, but that a store may stand behind a load
abbrev pub NoStoreDependence : (ℕ → Form) → Option Touch → Option Touch → Type 0
NoStoreDependence forms (Some a) (Some b) =
    a.array ≡ b.array → a.stores ≡ true → NeverEqual (operand_form forms a.index) (operand_form forms b.index)
NoStoreDependence forms (Some a) None = Unit {0}
NoStoreDependence forms None touch = Unit {0}

-- two items do not conflict
pub record NoConflict (forms : ℕ → Form) (first second : Item) : Type 0 where
  pub no_dependence : NoDependence forms (touch_of first) (touch_of second)
  pub one_effect : (is_effect first && is_effect second) ≡ false

-- an item does not conflict with one before it in its row, or it is a store behind a load
pub record MayFollow (forms : ℕ → Form) (first second : Item) : Type 0 where
  pub no_store_dependence : NoStoreDependence forms (touch_of first) (touch_of second)
  pub one_effect : (is_effect first && is_effect second) ≡ false
