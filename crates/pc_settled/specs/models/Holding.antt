-- What is found to be held at places of rows.
use Rattle.std.specs.Prelude.{ℕ, ◌≡◌, ◌⊎◌, true, List, Some}
use Rattle.pc_word.specs.declared.item.Item.{Item}
use Rattle.pc_word.specs.Items.{dest_of}
use Rattle.pc_machine.specs.declared.tree.Leaf.{Leaf}
use Rattle.pc_machine.specs.MachineCode.{CodeRow, target_of}
use Rattle.pc_settled.specs.declared.settling.Found.{Found}
use Rattle.pc_settled.specs.declared.settling.Pair.{Pair}
use Rattle.pc_settled.specs.declared.settling.HeldAbove.{HeldAbove}
use Rattle.pc_settled.specs.Needed.{Needs, Passes}
use Rattle.pc_settled.specs.Webs.{Value, At, AreOneWeb}
use Rattle.pc_settled.specs.Settled.{Path, HoldsAtEnd, Place, IsWebHeld}
use Rattle.pc_settled.specs.models.Found.{AreNeeded, AreJoined, value_in}

-- what was found of rows holds of them
pub record IsFound (rows : List CodeRow) (found : Found) : Type 0 where
  pub needed : AreNeeded rows found.live.rows.items
  pub joined : AreJoined rows found.live.homes.items found.sets.up.items

-- the value of the least node of a web
abbrev pub web_in : Found → ℕ → Value
web_in found web = value_in found.live.homes.items web

-- a row needs a value of a web
pub record NeedsOf (rows : List CodeRow) (number : ℕ) (web : Value) : Type 0 where
  pub register : ℕ
  pub needs : Needs rows number register
  pub one_web : AreOneWeb rows (At number register) web

pub record HoldsAtEntry (found : Found) (number web : ℕ) : Type 0 where
  pub holds : (rows : List CodeRow) → IsFound rows found → NeedsOf rows number (web_in found web)

-- an item gives a value of a web to a row
pub record GivesOf (rows : List CodeRow) (item : Item) (below : CodeRow) (web : Value) : Type 0 where
  pub dest : ℕ
  pub to : ℕ
  pub is : dest_of item ≡ Some dest
  pub passes : Passes rows below dest to
  pub one_web : AreOneWeb rows (At to dest) web

pub record GivesWeb (found : Found) (item : Item) (below : CodeRow) (web : ℕ) : Type 0 where
  pub gives : (rows : List CodeRow) → IsFound rows found → GivesOf rows item below (web_in found web)

-- the row to which a leaf leads needs a value of a web
pub record LeafHolds (found : Found) (leaf : Leaf) (web : ℕ) : Type 0 where
  pub to : ℕ
  pub leads : target_of leaf ≡ Some to
  pub holds : HoldsAtEntry found to web

-- a value of a web is held at the end of a path
pub record EndHolds (rows : List CodeRow) (row : CodeRow) (path : Path row) (web : Value) : Type 0 where
  pub value : Value
  pub held : HoldsAtEnd rows row path value
  pub one_web : AreOneWeb rows value web

-- two webs are held at the end of a path, by items above or by what is left of the row
pub record HoldBoth (found : Found) (row : CodeRow) (pair : Pair) (above : HeldAbove) : Type 0 where
  pub path : Path row
  pub one : (above.one ≡ true) ⊎ ((rows : List CodeRow) → IsFound rows found → EndHolds rows row path (web_in found pair.one))
  pub other : (above.other ≡ true) ⊎ ((rows : List CodeRow) → IsFound rows found → EndHolds rows row path (web_in found pair.other))

-- two webs are held at one place
pub record AreHeld (rows : List CodeRow) (one other : Value) : Type 0 where
  pub place : Place rows
  pub first : IsWebHeld rows place one
  pub second : IsWebHeld rows place other

pub record HeldTogether (rows : List CodeRow) (found : Found) (pair : Pair) : Type 0 where
  pub held : IsFound rows found → AreHeld rows (web_in found pair.one) (web_in found pair.other)
