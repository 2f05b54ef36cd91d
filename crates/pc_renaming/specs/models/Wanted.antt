-- Which values the rows want to which a row leads, and what is decided of an item by that.
use Rattle.std.specs.Prelude.{ℕ, ◌≡◌, ◌⊎◌, Bool, true, Option, Some}
use Rattle.pc_word.specs.declared.item.Item.{Item}
use Rattle.pc_word.specs.declared.item.Item.TheVariants.{Copy}
use Rattle.pc_word.specs.declared.item.Operand.TheVariants.{Name}
use Rattle.pc_word.specs.Items.{dest_of}
use Rattle.pc_word.specs.Row.{Then, Either, At_leaf}
use Rattle.pc_machine.specs.MachineCode.{CodeRow, target_of}
use Rattle.pc_renaming.specs.declared.kept.Kept.{Kept}
use Rattle.pc_renaming.specs.declared.kept.Kept.TheVariants.{Before, Made}
use Rattle.pc_renaming.specs.Renaming.{Renaming}
use Rattle.pc_renaming.specs.RowRenames.{ItemGoes, ItemStays, RowRenames}

-- a leaf leads to a row in which the value of a register of the code before is to be in a place
abbrev pub IsWanted : Renaming → ℕ → ℕ → CodeRow → Type 0
IsWanted renaming register place (Then item row) = IsWanted renaming register place row
IsWanted renaming register place (Either on row other) = IsWanted renaming register place row ⊎ IsWanted renaming register place other
IsWanted renaming register place (At_leaf leaf) = (target : ℕ) × (target_of leaf ≡ Some target) × (renaming.holds target register ≡ Some place)

-- what an item of the code after writes in a place is wanted as the value of a register, or neither is wanted
pub data AreWantedAlike (renaming : Renaming) (register place : ℕ) (row : CodeRow) : Type 0 where
  Wanted_there : IsWanted renaming register place row → AreWantedAlike renaming register place row
  Not_wanted : ((other : ℕ) → IsWanted renaming register other row → ⊥) → ((other : ℕ) → IsWanted renaming other place row → ⊥)
      → AreWantedAlike renaming register place row

-- the value of the register is wanted elsewhere, or what is in the place is wanted as the value of another register
pub data AreWantedApart (renaming : Renaming) (register place : ℕ) (row : CodeRow) : Type 0 where
  Elsewhere : (other : ℕ) → IsWanted renaming register other row → (other ≡ place → ⊥) → AreWantedApart renaming register place row
  As_another : (other : ℕ) → ((elsewhere : ℕ) → IsWanted renaming register elsewhere row → ⊥) → IsWanted renaming other place row
      → AreWantedApart renaming register place row

-- each register of the code after that has a value which an item of the path made is written
abbrev pub MadeIsWritten : (ℕ → Kept) → (ℕ → Bool) → Type 0
MadeIsWritten kept written = (register place : ℕ) → kept register ≡ Made place → written place ≡ true

-- where both items write a register, what they write is wanted alike
abbrev pub WriteAlike : Renaming → Item → Item → CodeRow → Type 0
WriteAlike renaming item other row = (register place : ℕ) → dest_of item ≡ Some register → dest_of other ≡ Some place → AreWantedAlike renaming register place row

-- both items write a register, and what they write is wanted apart
pub record WriteApart (renaming : Renaming) (item other : Item) (row : CodeRow) : Type 0 where
  pub register : ℕ
  pub place : ℕ
  pub first : dest_of item ≡ Some register
  pub second : dest_of other ≡ Some place
  pub apart : AreWantedApart renaming register place row

-- an item is a copy, to a register that the path has not written, of what is in a place
pub record IsCopyOf (home : ℕ → Option ℕ) (kept : ℕ → Kept) (item : Item) (dest place : ℕ) : Type 0 where
  pub from : ℕ
  pub is : item ≡ Copy dest (Name from)
  pub before : kept dest ≡ Before
  pub there : home from ≡ Some place

-- two items, of which the one would have to do what the other does, do not stand beside each other
abbrev pub NeverBoth : ℕ → (ℕ → Option ℕ) → (ℕ → Kept) → (ℕ → Bool) → Item → Item → Type 0
NeverBoth registers home kept written item other =
    (then_kept : ℕ → Kept) (then_written : ℕ → Bool) → ItemStays registers home kept written item other then_kept then_written → ⊥

module _ (registers rows : ℕ) (renaming : Renaming) (home : ℕ → Option ℕ) (kept : ℕ → Kept) (written : ℕ → Bool) (item : Item) where
  -- an item of the row before stays beside the first one of the row after, and what they write is wanted alike
  pub record StaysBeside (new : CodeRow) (then_kept : ℕ → Kept) (then_written : ℕ → Bool) : Type 0 where
    pub other : Item
    pub rest : CodeRow
    pub is : new ≡ Then other rest
    pub stays : ItemStays registers home kept written item other then_kept then_written
    pub alike : WriteAlike renaming item other rest

  -- it does not stay beside that one, since what is left of the row after would not do what is left of the row before
  abbrev pub NeverStays : CodeRow → Type 0
  NeverStays new = (next : CodeRow) (other : Item) (rest : CodeRow) (then_kept : ℕ → Kept) (then_written : ℕ → Bool) → new ≡ Then other rest
      → ItemStays registers home kept written item other then_kept then_written → RowRenames registers rows renaming home then_kept then_written next rest → ⊥

module _ (rows : ℕ) (renaming : Renaming) (home : ℕ → Option ℕ) (kept : ℕ → Kept) (written : ℕ → Bool) (item : Item) (new : CodeRow) where
  -- an item of the row before goes, and where it may go at all, it may go so
  pub record GoesBeside (then_kept : ℕ → Kept) : Type 0 where
    pub goes : ItemGoes home kept item then_kept
    pub leaves : (registers : ℕ) (next : CodeRow) (other : ℕ → Kept) → ItemGoes home kept item other → RowRenames registers rows renaming home other written next new
        → RowRenames registers rows renaming home then_kept written next new

  -- it does not go, since what is left of the row after would not do what is left of the row before
  abbrev pub NeverGoes : Type 0
  NeverGoes = (registers : ℕ) (next : CodeRow) (other : ℕ → Kept) → ItemGoes home kept item other → RowRenames registers rows renaming home other written next new → ⊥
