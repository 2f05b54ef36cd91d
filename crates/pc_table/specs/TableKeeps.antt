-- What every region table keeps that is cut from a flow graph.
use Rattle.std.specs.Prelude.{◌≡◌, ℕ, zero, suc, ◌+◌, ◌<◌, ◌≤◌, Bool, true, false, nat_eq, ◌&&◌, ◌||◌, not, length, Option, Some, None, IfSome, slice_get}
use Rattle.std.specs.List.{AllByRecursion, list_any}
use Rattle.std.specs.List.Sorted.{IsStrictlyIncreasing}
use Rattle.pc_word.specs.declared.item.Item.{Item}
use Rattle.pc_word.specs.declared.item.Operand.{Operand}
use Rattle.pc_word.specs.declared.item.Operand.TheVariants.{Name, Lit}
use Rattle.pc_word.specs.declared.loop_mark.LoopMark.{LoopMark}
use Rattle.pc_word.specs.MachineLimits.{most_arrays}
use Rattle.pc_word.specs.SourceLimits.{most_scalars, most_temporaries}
use Rattle.pc_word.specs.Items.{operands_of, dest_of, array_of, reads_name, reads}
use Rattle.pc_word.specs.Commit.{writes}
use Rattle.pc_table.specs.Table.{TableTree, Does, Asks, Next, Stops_here, Traps_here, TableRegion, Table, region_tree, region_live}
use Rattle.pc_table.specs.RegionRun.{arrive}

-- ---- what a tree names

-- an operand names a variable that there is, 64 scalars and after them 32 temporaries, or it is a literal
abbrev pub NamesVariable : Operand → Type 0
NamesVariable (Name name) = name < most_scalars + most_temporaries
NamesVariable (Lit value) = Unit {0}

-- an item of a table with so many arrays: the variables that it reads and writes, and its array, are there
pub record ItemIsThere (arrays : ℕ) (item : Item) : Type 0 where
  pub reads : AllByRecursion NamesVariable (operands_of item)
  pub writes : IfSome (dest_of item) (λ name. name < most_scalars + most_temporaries)
  pub array : IfSome (array_of item) (λ array. array < arrays)
  deriving IsProp as ItemIsThere-once

-- all that a tree names is there, in a table with so many arrays and regions
abbrev pub TreeIsThere : (arrays regions : ℕ) → TableTree → Type 0
TreeIsThere arrays regions (Does origin item rest) = ItemIsThere arrays item × TreeIsThere arrays regions rest
TreeIsThere arrays regions (Asks origin on on_yes on_no) =
    NamesVariable on × TreeIsThere arrays regions on_yes × TreeIsThere arrays regions on_no
TreeIsThere arrays regions (Next region) = region < regions
TreeIsThere arrays regions Stops_here = Unit {0}
TreeIsThere arrays regions (Traps_here kind line) = Unit {0}

-- ---- what a tree reads

-- whether a tree needs a variable: reads it before writing it, or leads to a region where it is live without writing it
abbrev pub needs : Table → TableTree → ℕ → Bool
needs table (Does origin item rest) x = reads item x || (not (writes (dest_of item) x) && needs table rest x)
needs table (Asks origin on on_yes on_no) x = reads_name on x || (needs table on_yes x || needs table on_no x)
needs table (Next region) x = list_any (nat_eq x) (region_live table region)
needs table Stops_here x = false
needs table (Traps_here kind line) x = false

-- ---- how large a tree is, and where it leads without a test

-- the items and tests of a tree
abbrev pub units : TableTree → ℕ
units (Does origin item rest) = suc (units rest)
units (Asks origin on on_yes on_no) = suc (units on_yes + units on_no)
units (Next region) = zero
units Stops_here = zero
units (Traps_here kind line) = zero

-- nodes of a flow graph that a region may have
abbrev pub most_region_nodes : ℕ
most_region_nodes = 128

-- the region to which a tree leads that has no test
abbrev pub untested : TableTree → Option ℕ
untested (Does origin item rest) = untested rest
untested (Asks origin on on_yes on_no) = None
untested (Next region) = Some region
untested Stops_here = None
untested (Traps_here kind line) = None

-- from one region to another through one or more trees that have no test
pub data ComesUntested (table : Table) (from : ℕ) : (to : ℕ) → Type 0 where
  By_one : {to : ℕ} → untested (region_tree table from) ≡ Some to → ComesUntested table from to
  By_more : {mid to : ℕ} → ComesUntested table from mid → untested (region_tree table mid) ≡ Some to → ComesUntested table from to

-- ---- the whole

-- a region of a table: what it names is there, it is not too large, and its live variables rise
pub record RegionKeeps (table : Table) (region : TableRegion) : Type 0 where
  pub there : TreeIsThere (length table.arrays) (length table.regions) region.tree
  pub few : units region.tree ≤ most_region_nodes
  pub rising : IsStrictlyIncreasing region.live
  pub inside_there : IfSome region.inside (λ loop. loop < length table.loops)
  pub heads_there : IfSome region.heads (λ loop. loop < length table.loops)
  deriving IsProp as RegionKeeps-once

-- What every table keeps that is cut from a flow graph.
pub record TableKeeps (table : Table) : Type 0 where
  pub some_region : 1 ≤ length table.regions
  pub few_arrays : length table.arrays ≤ most_arrays
  pub each : (number : ℕ) (region : TableRegion) → slice_get table.regions number ≡ Some region → RegionKeeps table region
  -- the loop round a loop has a smaller number
  pub outer_first : (loop : ℕ) (mark : LoopMark) → slice_get table.loops loop ≡ Some mark → IfSome mark.outer (λ outer. outer < loop)
  -- what a region's tree needs is live there, and all that is live are variables
  pub live : (region x : ℕ) → needs table (region_tree table region) x ≡ true → list_any (nat_eq x) (region_live table region) ≡ true
  pub small : (region x : ℕ) → list_any (nat_eq x) (region_live table region) ≡ true → x < most_scalars + most_temporaries
  -- a tree begins with an item, a test, an end or a trap
  pub begins : (region : ℕ) → arrive table (region_tree table region) ≡ region_tree table region
  -- each cycle of regions passes a test
  pub tested : (region : ℕ) → ComesUntested table region region → ⊥
  deriving IsProp as TableKeeps-once
