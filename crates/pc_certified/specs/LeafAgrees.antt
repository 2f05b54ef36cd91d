-- When a leaf of a code agrees with what is left of a claim's window.
use Rattle.std.specs.Prelude.{◌≡◌, ℕ, List, Contains}
use Rattle.pc_word.specs.declared.item.Item.TheVariants.{Copy}
use Rattle.pc_word.specs.declared.item.Limits.{Limits}
use Rattle.pc_word.specs.declared.item.Operand.{Operand}
use Rattle.pc_word.specs.declared.item.Operand.TheVariants.{Name}
use Rattle.pc_word.specs.declared.item.TrapKind.{TrapKind}
use Rattle.pc_table.specs.Table.{Table}
use Rattle.pc_machine.specs.declared.tree.Leaf.{Leaf}
use Rattle.pc_machine.specs.declared.tree.Leaf.TheVariants.{Goto, Stop, Trap}
use Rattle.pc_window.specs.declared.home.Home.{Home}
use Rattle.pc_window.specs.Tree.{Tree, Pending, Exit, Stop_exit, Trap_exit, whole, home_of}
use Rattle.pc_window.specs.WindowRun.{Window}
use Rattle.pc_window.specs.Steps.{opened_window, with_tree}
use Rattle.pc_certified.specs.Facts.{Fact, EachFact, OperandsMatch}
use Rattle.pc_certified.specs.Changes.{OneChange}
use Rattle.pc_certified.specs.Claims.{Claim, ArrivesAt, MakesProgress}

-- ---- facts on the way

-- a fact after a Copy that the window does and the row does not: what had the value of what is copied has the name's
pub data FactAfterCopy (held : List Fact) (name : ℕ) (from : Operand) : Fact → Type 0 where
  other_operand : {source operand : Operand} → OperandsMatch held source operand → (operand ≡ Name name → ⊥)
      → FactAfterCopy held name from (record { source = source; operand = operand })
  copied_name : {source : Operand} → OperandsMatch held source from → FactAfterCopy held name from (record { source = source; operand = Name name })

-- a fact in the window of a region that is entered: what had the value of a variable's home has the variable's
abbrev pub FactInRegion : List Fact → List Home → Fact → Type 0
FactInRegion held homes fact = (variable : ℕ) × (fact.operand ≡ Name variable) × OperandsMatch held fact.source (home_of homes variable)

-- ---- where a leaf leads

-- where a region was entered on the way, and these facts hold, a leaf agrees with a window: both end, or trap alike; or the window arrives
-- at a claim of the row that the leaf leads to; or so it is after a change, after a Copy at the root, or in the region of a stub that is
-- the whole window
pub data LeafAgreesInRegion (table : Table) (limits : Limits) (claims : List Claim) : List Fact → Leaf → Window → Type 0 where
  region_ends : {held : List Fact} {w : Window} → whole w.front ≡ Stop_exit → LeafAgreesInRegion table limits claims held Stop w
  region_traps : {held : List Fact} {w : Window} {kind : TrapKind} {line : ℕ} → whole w.front ≡ Trap_exit kind line
      → LeafAgreesInRegion table limits claims held (Trap kind line) w
  region_arrives : {held : List Fact} {w : Window} (next : Claim) → Contains claims next → ArrivesAt w held next
      → LeafAgreesInRegion table limits claims held (Goto next.row) w
  region_changes : {held : List Fact} {leaf : Leaf} {w v : Window} → OneChange table w v → LeafAgreesInRegion table limits claims held leaf v
      → LeafAgreesInRegion table limits claims held leaf w
  region_copies : {held after : List Fact} {leaf : Leaf} {w : Window} (tag origin name : ℕ) (from : Operand) (rest : Tree)
      → whole w.front ≡ Pending tag origin (Copy name from) rest → EachFact after (FactAfterCopy held name from)
      → LeafAgreesInRegion table limits claims after leaf (with_tree w rest) → LeafAgreesInRegion table limits claims held leaf w
  region_enters : {held inside : List Fact} {leaf : Leaf} {w : Window} (region tag : ℕ) (homes : List Home)
      → whole w.front ≡ Exit region tag homes → EachFact inside (FactInRegion held homes)
      → LeafAgreesInRegion table limits claims inside leaf (opened_window table limits region) → LeafAgreesInRegion table limits claims held leaf w

-- the same of what is left of a claim's window behind its row: until a region is entered, there is progress to the claim that is next
pub data LeafAgrees (table : Table) (limits : Limits) (claims : List Claim) (claim : Claim) : List Fact → Leaf → Window → Type 0 where
  leaf_ends : {held : List Fact} {w : Window} → whole w.front ≡ Stop_exit → LeafAgrees table limits claims claim held Stop w
  leaf_traps : {held : List Fact} {w : Window} {kind : TrapKind} {line : ℕ} → whole w.front ≡ Trap_exit kind line
      → LeafAgrees table limits claims claim held (Trap kind line) w
  leaf_arrives : {held : List Fact} {w : Window} (next : Claim) → Contains claims next → MakesProgress claim w next → ArrivesAt w held next
      → LeafAgrees table limits claims claim held (Goto next.row) w
  leaf_changes : {held : List Fact} {leaf : Leaf} {w v : Window} → OneChange table w v → LeafAgrees table limits claims claim held leaf v
      → LeafAgrees table limits claims claim held leaf w
  leaf_copies : {held after : List Fact} {leaf : Leaf} {w : Window} (tag origin name : ℕ) (from : Operand) (rest : Tree)
      → whole w.front ≡ Pending tag origin (Copy name from) rest → EachFact after (FactAfterCopy held name from)
      → LeafAgrees table limits claims claim after leaf (with_tree w rest) → LeafAgrees table limits claims claim held leaf w
  leaf_enters : {held inside : List Fact} {leaf : Leaf} {w : Window} (region tag : ℕ) (homes : List Home)
      → whole w.front ≡ Exit region tag homes → EachFact inside (FactInRegion held homes)
      → LeafAgreesInRegion table limits claims inside leaf (opened_window table limits region) → LeafAgrees table limits claims claim held leaf w
