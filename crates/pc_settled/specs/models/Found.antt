-- What is found of rows: each part of it holds of them, by the definitions.
use Rattle.std.specs.Prelude.{ℕ, ◌≡◌, ◌<◌, ◌⊎◌, true, false, List, Some, slice_index_or}
use Rattle.pc_word.specs.declared.item.Item.{Item}
use Rattle.pc_word.specs.Items.{dest_of, only_computes, reads}
use Rattle.pc_word.specs.Row.{At_leaf}
use Rattle.pc_machine.specs.declared.tree.Leaf.{Leaf}
use Rattle.pc_machine.specs.MachineCode.{CodeRow, target_of}
use Rattle.pc_settled.specs.declared.register_set.RegisterSet.{RegisterSet}
use Rattle.pc_settled.specs.declared.liveness.Home.{Home}
use Rattle.pc_settled.specs.declared.liveness.Liveness.{Liveness}
use Rattle.pc_settled.specs.declared.liveness.RowNeeds.{RowNeeds}
use Rattle.pc_settled.specs.models.Sets.{member, set_at}
use Rattle.pc_settled.specs.Needed.{Needs, Passes, Reads}
use Rattle.pc_settled.specs.Webs.{Value, At, HasItem, AreOneWeb}

-- ---- which registers rows need

-- each register in these sets is one that the row with that number needs
pub record AreNeeded (rows : List CodeRow) (sets : List RegisterSet) : Type 0 where
  pub needed : (number register : ℕ) → register < 256 → member (set_at sets number) register ≡ true → Needs rows number register

-- an item counts, where these registers are passed on below
abbrev pub CountsBy : Item → RegisterSet → Type 0
CountsBy item passed = (only_computes item ≡ false) ⊎ ((dest : ℕ) × (dest < 256) × (dest_of item ≡ Some dest) × (member passed dest ≡ true))

-- what is read with an item above: what was read, and what the item reads if it counts
abbrev pub IsAbove : Item → RowNeeds → RegisterSet → Type 0
IsAbove item below read = (x : ℕ) → x < 256 → member read x ≡ true → (member below.read x ≡ true) ⊎ ((reads item x ≡ true) × CountsBy item below.passed)

-- a register is passed on to some row
pub record IsPassed (rows : List CodeRow) (row : CodeRow) (register : ℕ) : Type 0 where
  pub to : ℕ
  pub passes : Passes rows row register to

-- what is found of a row, or of what is left of one, where sets of its rows were found
pub record FindsNeeds (sets : List RegisterSet) (row : CodeRow) (found : RowNeeds) : Type 0 where
  pub read : (rows : List CodeRow) → AreNeeded rows sets → (x : ℕ) → x < 256 → member found.read x ≡ true → Reads rows row x
  pub passed : (rows : List CodeRow) → AreNeeded rows sets → (x : ℕ) → x < 256 → member found.passed x ≡ true → IsPassed rows row x

-- a set is that of the row to which a leaf leads, or of no register
pub record IsBehind (sets : List RegisterSet) (leaf : Leaf) (set : RegisterSet) : Type 0 where
  pub told : (x : ℕ) → member set x ≡ true → (to : ℕ) × (target_of leaf ≡ Some to) × (member (set_at sets to) x ≡ true)

-- ---- which values are of one web

-- the value that a node is
abbrev pub value_of : Home → Value
value_of home = At home.row home.register

abbrev pub value_in : List Home → ℕ → Value
value_in homes node = value_of (slice_index_or homes node (record { row = 0; register = 0 }))

-- each node is of one web with the node that it names
pub record AreJoined (rows : List CodeRow) (homes : List Home) (up : List ℕ) : Type 0 where
  pub joined : (node : ℕ) → AreOneWeb rows (value_in homes node) (value_in homes (slice_index_or up node node))

-- of one web, where nodes name nodes of their webs
pub record LeadsTo (up : List ℕ) (one other : ℕ) : Type 0 where
  pub leads : (rows : List CodeRow) (homes : List Home) → AreJoined rows homes up → AreOneWeb rows (value_in homes one) (value_in homes other)

-- two nodes were joined: where they are of one web, each node still names one of its web
pub record Joins (old new : List ℕ) (one other : ℕ) : Type 0 where
  pub keeps : (rows : List CodeRow) (homes : List Home) → AreOneWeb rows (value_in homes one) (value_in homes other) → AreJoined rows homes old
      → AreJoined rows homes new

-- a node is that of a register in the row to which a leaf leads, which needs it
pub record IsNodeAt (live : Liveness) (leaf : Leaf) (register node : ℕ) : Type 0 where
  pub to : ℕ
  pub leads : target_of leaf ≡ Some to
  pub small : register < 256
  pub has : member (set_at live.rows.items to) register ≡ true
  pub is : value_in live.homes.items node ≡ At to register

-- a node is that of a register in a row to which what is left of a row passes it on
pub record IsGivenTo (rows : List CodeRow) (row : CodeRow) (register : ℕ) (value : Value) : Type 0 where
  pub to : ℕ
  pub passes : Passes rows row register to
  pub is : value ≡ At to register

pub record FindsBelow (live : Liveness) (row : CodeRow) (register node : ℕ) : Type 0 where
  pub found : (rows : List CodeRow) → AreNeeded rows live.rows.items → IsGivenTo rows row register (value_in live.homes.items node)

-- nodes were joined with one, to whose rows what is left of a row passes a register on
pub record JoinsBelow (live : Liveness) (row : CodeRow) (register node : ℕ) (old new : List ℕ) : Type 0 where
  pub keeps : (rows : List CodeRow) → AreNeeded rows live.rows.items
      → ((to : ℕ) → Passes rows row register to → AreOneWeb rows (value_in live.homes.items node) (At to register))
      → AreJoined rows live.homes.items old → AreJoined rows live.homes.items new

-- nodes were joined, to whose rows what is left of a row passes a register on
pub record JoinsGiven (live : Liveness) (row : CodeRow) (register : ℕ) (old new : List ℕ) : Type 0 where
  pub keeps : (rows : List CodeRow) → AreNeeded rows live.rows.items
      → ((to other : ℕ) → Passes rows row register to → Passes rows row register other → AreOneWeb rows (At to register) (At other register))
      → AreJoined rows live.homes.items old → AreJoined rows live.homes.items new

-- what is left of a row passes registers on that are not written above, each of one web with where it comes from
abbrev pub PassesAlike : List CodeRow → ℕ → CodeRow → RegisterSet → Type 0
PassesAlike rows number row written = (x to : ℕ) → x < 256 → member written x ≡ false → Passes rows row x to → AreOneWeb rows (At number x) (At to x)

-- what an item of it gives to two rows is of one web
abbrev pub GivesAlike : List CodeRow → CodeRow → Type 0
GivesAlike rows row = (item : Item) (below : CodeRow) (dest to other : ℕ) → HasItem row item below → dest_of item ≡ Some dest
    → Passes rows below dest to → Passes rows below dest other → AreOneWeb rows (At to dest) (At other dest)

-- nodes were joined of registers that a leaf passes on
pub record JoinsLeaf (live : Liveness) (number : ℕ) (leaf : Leaf) (written : RegisterSet) (old new : List ℕ) : Type 0 where
  pub keeps : (rows : List CodeRow) → AreNeeded rows live.rows.items → PassesAlike rows number (At_leaf leaf) written
      → AreJoined rows live.homes.items old → AreJoined rows live.homes.items new

-- nodes were joined of registers that what is left of a row passes on, and that its items give
pub record JoinsRow (live : Liveness) (number : ℕ) (row : CodeRow) (written : RegisterSet) (old new : List ℕ) : Type 0 where
  pub keeps : (rows : List CodeRow) → AreNeeded rows live.rows.items → PassesAlike rows number row written → GivesAlike rows row
      → AreJoined rows live.homes.items old → AreJoined rows live.homes.items new
