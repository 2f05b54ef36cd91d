-- When claims show that a code does what a table of regions does.
use Rattle.std.specs.Prelude.{◌≡◌, ℤ, pos, List, [], Contains, Some, slice_get}
use Rattle.pc_word.specs.declared.item.Item.{Item}
use Rattle.pc_word.specs.declared.item.Limits.{Limits}
use Rattle.pc_table.specs.Table.{Table}
use Rattle.pc_machine.specs.declared.tree.Leaf.{Leaf}
use Rattle.pc_machine.specs.declared.tree.Leaf.TheVariants.{Goto}
use Rattle.pc_machine.specs.MachineCode.{CodeRow, RowCode}
use Rattle.pc_window.specs.Tree.{Tree}
use Rattle.pc_window.specs.Steps.{opened_window, with_tree, front_row, IsProper}
use Rattle.pc_certified.specs.Facts.{Fact, EachFact, FactHolds}
use Rattle.pc_certified.specs.Paths.{FactAfter}
use Rattle.pc_certified.specs.RowMatches.{RowMatches}
use Rattle.pc_certified.specs.Changes.{ChangesTo}
use Rattle.pc_certified.specs.Claims.{Claim}
use Rattle.pc_certified.specs.LeafAgrees.{LeafAgrees, LeafAgreesInRegion}

-- a leaf of a claim's row, with the items above it, against a leaf of the front, with the items above it: from facts that hold there, it
-- agrees with the tree that is left
abbrev pub AgreesAtLeaf : (table : Table) (limits : Limits) (claims : List Claim) (claim : Claim) → List Item → List Item → Leaf → Tree → Type 0
AgreesAtLeaf table limits claims claim items others leaf rest =
    (held : List Fact) × EachFact held (FactAfter claim.facts items others) × LeafAgrees table limits claims claim held leaf (with_tree claim.arranged rest)

-- a claim is shown: changes arrange its window, and its row matches the front, so that what is left agrees with the row's leaves
pub record IsShown (table : Table) (code : RowCode) (claims : List Claim) (claim : Claim) : Type 0 where
  pub row : CodeRow
  pub at : slice_get code.rows claim.row ≡ Some row
  pub proper : IsProper claim.window
  pub changes : ChangesTo table claim.window claim.arranged
  pub does : RowMatches claim.facts (AgreesAtLeaf table code.limits claims claim) [] [] row (front_row (λ tree. tree) claim.arranged.front)

-- a fact that holds where all registers and all variables are 0
abbrev pub HoldsAtStart : Fact → Type 0
HoldsAtStart fact = FactHolds (λ register. pos 0) (λ variable. pos 0) fact

-- claims show that a code does what a table does, from region 0 on, over arrays that begin with these words: the code's arrays and data are
-- the same; row 0 agrees with the window of region 0, where facts hold that hold at the start; and each claim is shown
pub record Shows (table : Table) (words : List (List ℤ)) (code : RowCode) (claims : List Claim) : Type 0 where
  pub arrays : code.arrays ≡ table.arrays
  pub initial : code.initial ≡ words
  pub held : List Fact
  pub start : EachFact held HoldsAtStart
  pub begins : LeafAgreesInRegion table code.limits claims held (Goto 0) (opened_window table code.limits 0)
  pub each : (claim : Claim) → Contains claims claim → IsShown table code claims claim
