-- Where the rows of regions stand in a code: those of an automaton on registers, with rows of copies after its leaves, or
-- one for each item and test.
use Rattle.std.specs.Prelude.{◌≡◌, ℕ, suc, ◌+◌, List, [], ◌∷◌, Option, Some, slice_get}
use Rattle.pc_word.specs.declared.item.Item.{Item}
use Rattle.pc_word.specs.declared.item.Operand.{Operand}
use Rattle.pc_word.specs.declared.item.TrapKind.{TrapKind}
use Rattle.pc_word.specs.Row.{Row, Then, Either, At_leaf}
use Rattle.pc_table.specs.Table.{TableTree, Does, Asks, Next, Stops_here, Traps_here, Table, region_tree}
use Rattle.pc_table.specs.TableKeeps.{units}
use Rattle.pc_window.specs.declared.home.Home.{Home}
use Rattle.pc_automaton.specs.declared.automaton.AutomatonLeaf.{AutomatonLeaf}
use Rattle.pc_automaton.specs.declared.automaton.AutomatonLeaf.TheVariants.{To, Out, Stop, Trap}
use Rattle.pc_automaton.specs.Automaton.{AutomatonState}
use Rattle.pc_automaton.specs.AutomatonRun.{state_parameters}
use Rattle.pc_assign.specs.Assigned.{Registers}
use Rattle.pc_machine.specs.declared.tree.Leaf.{Leaf}
use Rattle.pc_machine.specs.declared.tree.Leaf.TheVariants as machine
use Rattle.pc_machine.specs.MachineCode.{CodeRow}
use Rattle.pc_copies.specs.declared.moves.Move.{Move}
use Rattle.pc_copies.specs.Moves.{IsArranged}
use Rattle.pc_copies.specs.Laws.{copy_row}
use Rattle.pc_emit.specs.Registers.{register_of, argument_moves, home_moves}
use Rattle.pc_word.specs.Naming.{map_name, map_names}

-- ---- forms

-- the form of a region: a row for each item and test; or an automaton, with registers for the names of its states
pub data RegionForm : Type 0 where
  Plain : RegionForm
  ByAutomaton : (states : List AutomatonState) → (registers : Registers) → RegionForm

-- the rows at which plain regions begin, and the rows of the states of packed ones
pub record Places : Type 0 where
  pub entry : ℕ → ℕ
  pub state : ℕ → ℕ → ℕ

-- the form of each region of a table that has one, where each stands, and how many copies a row may have
pub record Emission : Type 0 where
  pub table : Table
  pub forms : ℕ → Option RegionForm
  pub places : Places
  pub ops : ℕ

-- ---- leaves

-- the leaf that leads to the root of a plain region's tree: a goto to its row, or the stop or trap that it is
abbrev pub root_leaf : (row : ℕ) → TableTree → Leaf
root_leaf row (Does origin item rest) = machine.Goto row
root_leaf row (Asks origin on on_yes on_no) = machine.Goto row
root_leaf row (Next region) = machine.Goto row
root_leaf row Stops_here = machine.Stop
root_leaf row (Traps_here kind line) = machine.Trap kind line

-- the leaf that leads to a region in this form
abbrev pub form_leaf : Emission → ℕ → RegionForm → Leaf
form_leaf e region Plain = root_leaf (e.places.entry region) (region_tree e.table region)
form_leaf e region (ByAutomaton states registers) = machine.Goto (e.places.state region 0)

-- a leaf that leads to a region that has a form
pub record LeadsToRegion (e : Emission) (region : ℕ) (leaf : Leaf) : Type 0 where
  pub form : RegionForm
  pub has : e.forms region ≡ Some form
  pub is : leaf ≡ form_leaf e region form

-- from one leaf to another through rows of copies
pub data Passes (rows : List CodeRow) : Leaf → List (List Move) → Leaf → Type 0 where
  passes_none : {leaf : Leaf} → Passes rows leaf [] leaf
  passes_row : {at : ℕ} {copies : List Move} {more : List (List Move)} {next leaf : Leaf} → slice_get rows at ≡ Some (copy_row copies next)
      → Passes rows next more leaf → Passes rows (machine.Goto at) (copies ∷ more) leaf

-- from one leaf to another through copies that do these moves at once, with scratch for cycles
pub record LeadsThroughMoves (e : Emission) (scratch : ℕ) (rows : List CodeRow) (from : Leaf) (moves : List Move) (to : Leaf) : Type 0 where
  pub copies : List (List Move)
  pub arranged : IsArranged moves e.ops scratch copies
  pub passes : Passes rows from copies to

-- ---- automata

-- a leaf of a state, whose names have these registers: it leads on through the copies that pass its arguments or homes
pub data LeafStands (e : Emission) (rows : List CodeRow) (region : ℕ) (states : List AutomatonState) (registers : Registers) (of : ℕ → ℕ)
    : AutomatonLeaf → Leaf → Type 0 where
  leads_to_state : {number : ℕ} {arguments : List Operand} {leaf : Leaf}
      → LeadsThroughMoves e registers.scratch rows leaf
      (argument_moves of (register_of (registers.of number)) (state_parameters (slice_get states number)) arguments) (machine.Goto (e.places.state region number))
      → LeafStands e rows region states registers of (To number arguments) leaf
  leads_to_region : {to : ℕ} {homes : List Home} {leaf target : Leaf} → LeadsToRegion e to target → LeadsThroughMoves e registers.scratch rows leaf (home_moves of homes) target
      → LeafStands e rows region states registers of (Out to homes) leaf
  ends_here : LeafStands e rows region states registers of Stop machine.Stop
  traps_here : {kind : TrapKind} {line : ℕ} → LeafStands e rows region states registers of (Trap kind line) (machine.Trap kind line)

-- a row of names, and the row of registers that does it
pub data RowStands (Related : AutomatonLeaf → Leaf → Type 0) (of : ℕ → ℕ) : Row AutomatonLeaf → CodeRow → Type 0 where
  item_stands : (item : Item) {rest : Row AutomatonLeaf} {below : CodeRow} → RowStands Related of rest below
      → RowStands Related of (Then item rest) (Then (map_names of item) below)
  test_stands : (on : Operand) {on_yes on_no : Row AutomatonLeaf} {yes_below no_below : CodeRow}
      → RowStands Related of on_yes yes_below → RowStands Related of on_no no_below
      → RowStands Related of (Either on on_yes on_no) (Either (map_name of on) yes_below no_below)
  leaf_stands : {leaf : AutomatonLeaf} {below : Leaf} → Related leaf below → RowStands Related of (At_leaf leaf) (At_leaf below)

-- the row of a state
pub record StateStands (e : Emission) (rows : List CodeRow) (region : ℕ) (states : List AutomatonState) (registers : Registers) (number : ℕ)
    (state : AutomatonState) : Type 0 where
  pub row : CodeRow
  pub there : slice_get rows (e.places.state region number) ≡ Some row
  pub stands : RowStands (LeafStands e rows region states registers (register_of (registers.of number))) (register_of (registers.of number)) state.row row

-- ---- plain regions

-- the leaf that leads to what stands after an item or a test: to this row, or to the region that follows
pub data LeadsBehind (e : Emission) (row : ℕ) : TableTree → Leaf → Type 0 where
  to_item : {origin : ℕ} {item : Item} {rest : TableTree} → LeadsBehind e row (Does origin item rest) (machine.Goto row)
  to_test : {origin : ℕ} {on : Operand} {on_yes on_no : TableTree} → LeadsBehind e row (Asks origin on on_yes on_no) (machine.Goto row)
  to_region : {region : ℕ} {leaf : Leaf} → LeadsToRegion e region leaf → LeadsBehind e row (Next region) leaf
  to_end : LeadsBehind e row Stops_here machine.Stop
  to_trap : {kind : TrapKind} {line : ℕ} → LeadsBehind e row (Traps_here kind line) (machine.Trap kind line)

-- the rows of a tree stand from this one on: each item, and what stands after it; each test, and its two sides
pub data TreeStands (e : Emission) (rows : List CodeRow) : (row : ℕ) → TableTree → Type 0 where
  item_row : {row origin : ℕ} {item : Item} {rest : TableTree} {leaf : Leaf} → slice_get rows row ≡ Some (Then item (At_leaf leaf))
      → LeadsBehind e (suc row) rest leaf → TreeStands e rows (suc row) rest → TreeStands e rows row (Does origin item rest)
  test_row : {row origin : ℕ} {on : Operand} {on_yes on_no : TableTree} {yes_leaf no_leaf : Leaf}
      → slice_get rows row ≡ Some (Either on (At_leaf yes_leaf) (At_leaf no_leaf))
      → LeadsBehind e (suc row) on_yes yes_leaf → LeadsBehind e (suc row + units on_yes) on_no no_leaf
      → TreeStands e rows (suc row) on_yes → TreeStands e rows (suc row + units on_yes) on_no → TreeStands e rows row (Asks origin on on_yes on_no)
  no_row : {row region : ℕ} → TreeStands e rows row (Next region)
  no_end_row : {row : ℕ} → TreeStands e rows row Stops_here
  no_trap_row : {row : ℕ} {kind : TrapKind} {line : ℕ} → TreeStands e rows row (Traps_here kind line)

-- ---- the whole

-- the rows of a region in a form
abbrev pub RegionStands : Emission → List CodeRow → ℕ → RegionForm → Type 0
RegionStands e rows region Plain = TreeStands e rows (e.places.entry region) (region_tree e.table region)
RegionStands e rows region (ByAutomaton states registers) =
    (number : ℕ) (state : AutomatonState) → slice_get states number ≡ Some state → StateStands e rows region states registers number state

-- row 0 is the row of region 0, or it is the leaf alone that leads to it
pub data BeginsAt (rows : List CodeRow) : Leaf → Type 0 where
  at_first_row : BeginsAt rows (machine.Goto 0)
  by_leaf_alone : {leaf : Leaf} → slice_get rows 0 ≡ Some (At_leaf leaf) → BeginsAt rows leaf

-- row 0 is the first row of region 0, if this is packed
abbrev pub BeginsAtFirstRow : Emission → Type 0
BeginsAtFirstRow e =
    (states : List AutomatonState) (registers : Registers) → e.forms 0 ≡ Some (ByAutomaton states registers) → e.places.state 0 0 ≡ 0

-- the rows of a code: those of each region that has a form, region 0 among them
pub record IsEmitted (e : Emission) (rows : List CodeRow) : Type 0 where
  pub first : Leaf
  pub leads : LeadsToRegion e 0 first
  pub begins : BeginsAt rows first
  pub stands : (region : ℕ) (form : RegionForm) → e.forms region ≡ Some form → RegionStands e rows region form
