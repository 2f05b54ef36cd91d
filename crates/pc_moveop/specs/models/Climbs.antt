-- An item on its way up as it lies in memory, and what it met.
use Rattle.std.specs.Prelude.{ℕ, ◌≡◌, Bool, if◌then◌else◌, List, [], ◌∷◌, Option, Some, None, slice_get, length}
use Rattle.std.specs.List.{list_any}
use Rattle.pc_word.specs.declared.item.Item.{Item}
use Rattle.pc_word.specs.declared.item.Operand.{Operand}
use Rattle.pc_word.specs.declared.item.Operand.TheVariants.{Name, Lit}
use Rattle.pc_word.specs.Items.{operands_of}
use Rattle.pc_linear.specs.Form.{Form}
use Rattle.pc_window.specs.declared.names.NameTable.{NameTable}
use Rattle.pc_window.specs.Filled.{given_supply}
use Rattle.pc_window.specs.StoredWindow.{supply_in}
use Rattle.pc_moveop.specs.Moving.{moved_item, moved_name}
use Rattle.pc_moveop.specs.Climbing.{Mover, defines_operand, FirstConflict, has_effect, crosses_test}
use Rattle.pc_moveop.specs.declared.climbing.Climb.{Climb}

-- what is told of an item is so
pub record IsClimb (forms : ℕ → Form) (m : Mover) (c : Climb) : Type 0 where
  pub tag : c.tag ≡ m.tag
  pub origin : c.origin ≡ m.origin
  pub item : c.item ≡ m.item
  pub first : c.first_defined ≡ list_any (defines_operand (slice_get (operands_of m.item) 0)) m.way
  pub second : c.second_defined ≡ list_any (defines_operand (slice_get (operands_of m.item) 1)) m.way
  pub conflict : FirstConflict forms m.item m.way c.conflict
  pub crosses : c.crosses ≡ crosses_test m
  pub effect : c.effect ≡ list_any has_effect m.way

-- the same where there may be no item
abbrev pub AreFound : (ℕ → Form) → Option Mover → Option Climb → Type 0
AreFound forms (Some m) (Some c) = IsClimb forms m c
AreFound forms None None = Unit {0}
AreFound forms (Some m) None = ⊥
AreFound forms None (Some c) = ⊥

pub record Finds (forms : ℕ → Form) (m : Option Mover) (c : Option Climb) : Type 0 where
  pub is : AreFound forms m c

-- of at most two operands the first that is marked as defined
abbrev pub second_marked : Bool → List Operand → Option ℕ
second_marked second [] = None
second_marked second (Name name ∷ operands) = if second then Some name else None
second_marked second (Lit value ∷ operands) = None

abbrev pub first_marked : Bool → Bool → List Operand → Option ℕ
first_marked first second [] = None
first_marked first second (Name name ∷ operands) = if first then Some name else second_marked second operands
first_marked first second (Lit value ∷ operands) = second_marked second operands

-- an item as it comes, and the names with what is new
pub record IsNamed (before after : NameTable) (m : Mover) (it : Item) : Type 0 where
  pub item : it ≡ moved_item (length before.forms) m
  pub names : supply_in after ≡ given_supply (supply_in before) (moved_name (length before.forms) m) (Some (moved_item (length before.forms) m))
