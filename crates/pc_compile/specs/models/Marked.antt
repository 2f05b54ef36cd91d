-- The regions that were found, with a mark for each.
use Rattle.std.specs.Prelude.{◌≡◌, ℕ, ◌<◌, Bool, false, nat_eq, List, [], length, replicate, Some, slice_get}
use Rattle.std.specs.List.{AllByRecursion, list_any, count_by}
use Rattle.pc_table.specs.Table.{TableTree, Does, Asks, Next, Stops_here, Traps_here}
use Rattle.pc_automaton.specs.declared.automaton.AutomatonLeaf.{AutomatonLeaf}
use Rattle.pc_automaton.specs.declared.automaton.AutomatonLeaf.TheVariants.{To, Out, Stop, Trap}
use Rattle.pc_compile.specs.Choosing.{with_regions}

-- a mark for each region, and the regions that were found, in their order
pub record Marked : Type 0 where
  pub marks : List Bool
  pub order : List ℕ

-- as many regions are marked as were found, each of these is there, and its mark says whether a region is among them
pub record IsMarked (it : Marked) : Type 0 where
  pub as_many : length it.order ≡ count_by (λ mark. mark) it.marks
  pub there : AllByRecursion (λ region. region < length it.marks) it.order
  pub says : (region : ℕ) (mark : Bool) → slice_get it.marks region ≡ Some mark → list_any (nat_eq region) it.order ≡ mark

-- none of so many regions was found
abbrev pub none_found : ℕ → Marked
none_found count = record { marks = replicate count false; order = [] }

-- these regions are found, in their order
pub record Finds (regions : List ℕ) (old new : Marked) : Type 0 where
  pub order : new.order ≡ with_regions old.order regions
  pub as_many : length new.marks ≡ length old.marks

-- ---- regions that are there

-- each region that a tree names is below this number
abbrev pub NamesBelow : ℕ → TableTree → Type 0
NamesBelow count (Does origin item rest) = NamesBelow count rest
NamesBelow count (Asks origin on on_yes on_no) = NamesBelow count on_yes × NamesBelow count on_no
NamesBelow count (Next region) = region < count
NamesBelow count Stops_here = Unit {0}
NamesBelow count (Traps_here kind line) = Unit {0}

-- so is the region that a leaf leads out to
abbrev pub LeadsBelow : ℕ → AutomatonLeaf → Type 0
LeadsBelow count (To state arguments) = Unit {0}
LeadsBelow count (Out region homes) = region < count
LeadsBelow count Stop = Unit {0}
LeadsBelow count (Trap kind line) = Unit {0}
