-- Laws of the definitions. Each is the contract of a function of laws.rt, which does nothing.
use Rattle.std.specs.Prelude.{◌≡◌, ℕ, true, nat_eq}
use Rattle.std.specs.List.{list_any}
use Rattle.pc_word.specs.Run.{Grows}
use Rattle.pc_word.specs.State.{State}
use Rattle.pc_table.specs.Table.{TableTree, Next, Table, region_live}
use Rattle.pc_table.specs.RegionRun.{region_run}
use Rattle.pc_table.specs.TableKeeps.{TableKeeps}

-- with more items and tests the printed list only grows, and an end stays
abbrev pub RegionRunsGrow : Type 0
RegionRunsGrow = (table : Table) (tree : TableTree) (s : State) → Grows (region_run table tree s)

-- two states with the same elements and input left, and the same values of the variables that are live at a region's head
pub record AlikeAtHead (table : Table) (region : ℕ) (s t : State) : Type 0 where
  pub cells : t.cells ≡ s.cells
  pub input : t.input ≡ s.input
  pub names : (variable : ℕ) → list_any (nat_eq variable) (region_live table region) ≡ true → t.names variable ≡ s.names variable

-- from such states a region shows the same: variables that are not live at its head do not matter
abbrev pub DeadVariablesAreNotSeen : Type 0
DeadVariablesAreNotSeen =
    (table : Table) → TableKeeps table → (region n : ℕ) (s t : State) → AlikeAtHead table region s t
    → region_run table (Next region) t n ≡ region_run table (Next region) s n
