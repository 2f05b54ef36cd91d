-- When rows are settled: no row of copies keeps a copy whose source's web and destination's web are never held together.
use Rattle.std.specs.Prelude.{ℕ, ◌≡◌, ◌≢◌, Bool, true, false, List, Some, slice_get, is_some}
use Rattle.pc_word.specs.declared.item.Item.{Item}
use Rattle.pc_word.specs.declared.item.Item.TheVariants.{Copy}
use Rattle.pc_word.specs.declared.item.Operand.{Operand}
use Rattle.pc_word.specs.declared.item.Operand.TheVariants.{Name, Lit}
use Rattle.pc_word.specs.Items.{dest_of}
use Rattle.pc_word.specs.Row.{Then, Either, At_leaf}
use Rattle.pc_machine.specs.declared.tree.Leaf.{Leaf}
use Rattle.pc_machine.specs.declared.tree.Leaf.TheVariants.{Goto}
use Rattle.pc_machine.specs.MachineCode.{CodeRow, target_of}
use Rattle.pc_settled.specs.Needed.{Needs, Passes}
use Rattle.pc_settled.specs.Webs.{Value, At, AreOneWeb}

-- ---- places, and what is held there

-- a path of a row, or of what is left of one, down to a leaf
pub data Path : (row : CodeRow) → Type 0 where
  Down : {item : Item} {row : CodeRow} → Path row → Path (Then item row)
  Yes_side : {on : Operand} {on_yes on_no : CodeRow} → Path on_yes → Path (Either on on_yes on_no)
  No_side : {on : Operand} {on_yes on_no : CodeRow} → Path on_no → Path (Either on on_yes on_no)
  Ends : {leaf : Leaf} → Path (At_leaf leaf)

-- at the end of a path a value is held: the row to which its leaf leads needs it, or an item of the path gives it to some row,
-- be it on another path
pub data HoldsAtEnd (rows : List CodeRow) : (row : CodeRow) → (path : Path row) → (value : Value) → Type 0 where
  Led_to : {to register : ℕ} →
      Needs rows to register →
      HoldsAtEnd rows (At_leaf (Goto to)) Ends (At to register)
  Written : {item : Item} {row : CodeRow} {path : Path row} {dest to : ℕ} →
      dest_of item ≡ Some dest →
      Passes rows row dest to →
      HoldsAtEnd rows (Then item row) (Down path) (At to dest)
  Lower : {item : Item} {row : CodeRow} {path : Path row} {value : Value} →
      HoldsAtEnd rows row path value →
      HoldsAtEnd rows (Then item row) (Down path) value
  Yes_holds : {on : Operand} {on_yes on_no : CodeRow} {path : Path on_yes} {value : Value} →
      HoldsAtEnd rows on_yes path value →
      HoldsAtEnd rows (Either on on_yes on_no) (Yes_side path) value
  No_holds : {on : Operand} {on_yes on_no : CodeRow} {path : Path on_no} {value : Value} →
      HoldsAtEnd rows on_no path value →
      HoldsAtEnd rows (Either on on_yes on_no) (No_side path) value

-- a place of rows: the entry of the row with a number, or the end of a path of that row
pub data Place (rows : List CodeRow) : Type 0 where
  Entry : (number : ℕ) → Place rows
  End : (number : ℕ) → (row : CodeRow) → slice_get rows number ≡ Some row → Path row → Place rows

-- a value is held at a place: at the entry of a row what it needs
abbrev pub HoldsAt : (rows : List CodeRow) → Place rows → Value → Type 0
HoldsAt rows (Entry number) (At other register) = (other ≡ number) × Needs rows number register
HoldsAt rows (End number row there path) value = HoldsAtEnd rows row path value

-- the web of a value is held at a place
pub record IsWebHeld (rows : List CodeRow) (place : Place rows) (value : Value) : Type 0 where
  pub other : Value
  pub held : HoldsAt rows place other
  pub one_web : AreOneWeb rows other value

-- ---- settled

-- whether a row, or what is left of one, has no test, no item but copies, and a leaf that leads to a row
abbrev pub is_row_of_copies : CodeRow → Bool
is_row_of_copies (Then (Copy dest from) row) = is_row_of_copies row
is_row_of_copies (Then _ row) = false
is_row_of_copies (Either on on_yes on_no) = false
is_row_of_copies (At_leaf leaf) = is_some (target_of leaf)

-- a copy of one register into another in the row with this number, above what is left of the row, can't be spared: some
-- row needs what it gives, and there is a place at which the webs of its source and of its destination are both held
pub record IsDue (rows : List CodeRow) (number dest from : ℕ) (below : CodeRow) : Type 0 where
  pub apart : dest ≢ from
  pub to : ℕ
  pub given : Passes rows below dest to
  pub place : Place rows
  pub source : IsWebHeld rows place (At number from)
  pub destination : IsWebHeld rows place (At to dest)

-- what is asked of an item in a row of copies
abbrev pub IsItemDue : List CodeRow → ℕ → Item → CodeRow → Type 0
IsItemDue rows number (Copy dest (Name from)) below = IsDue rows number dest from below
IsItemDue rows number (Copy dest (Lit word)) below = Unit {0}
IsItemDue rows number _ below = Unit {0}

-- and of each of them
abbrev pub AreItemsDue : List CodeRow → ℕ → CodeRow → Type 0
AreItemsDue rows number (Then item row) = IsItemDue rows number item row × AreItemsDue rows number row
AreItemsDue rows number (Either on on_yes on_no) = Unit {0}
AreItemsDue rows number (At_leaf leaf) = Unit {0}

-- settled: no row of copies keeps a copy whose source's web and destination's web are never held together
abbrev pub Settled : List CodeRow → Type 0
Settled rows = (number : ℕ) (row : CodeRow) → slice_get rows number ≡ Some row → is_row_of_copies row ≡ true → AreItemsDue rows number row
