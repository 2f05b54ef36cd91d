-- What is emitted from a table and a form for each of its regions, and what that needs.
use Rattle.std.specs.Prelude.{◌≡◌, ℕ, ◌+◌, ◌<◌, ◌≤◌, List, Option, Some, None, length, slice_get, slice_index}
use Rattle.std.specs.List.{AllByRecursion, flat_map}
use Rattle.pc_word.specs.declared.item.Limits.{Limits}
use Rattle.pc_word.specs.declared.item.TrapKind.{TrapKind}
use Rattle.pc_word.specs.MachineLimits.{most_object}
use Rattle.pc_word.specs.Row.{leaves_of}
use Rattle.pc_table.specs.Table.{TableTree, Does, Asks, Next, Stops_here, Traps_here, Table, region_tree}
use Rattle.pc_automaton.specs.declared.automaton.AutomatonLeaf.{AutomatonLeaf}
use Rattle.pc_automaton.specs.declared.automaton.AutomatonLeaf.TheVariants.{To, Out, Stop, Trap}
use Rattle.pc_automaton.specs.Automaton.{AutomatonState, IsAutomaton, states_in}
use Rattle.pc_automaton.specs.There.{StateIsThere}
use Rattle.pc_automaton.specs.Reachable.{EachIsReachable}
use Rattle.pc_automaton.specs.RowFits.{RowFits}
use Rattle.pc_assign.specs.Assigned.{Registers}
use Rattle.pc_assign.specs.Apart.{IsApart}
use Rattle.pc_assign.specs.Stored.{registers_in}
use Rattle.pc_machine.specs.MachineCode.{CodeRow}
use Rattle.pc_machine.specs.Registers.{most_registers}
use Rattle.pc_machine.specs.WellFormed.{IsRow}
use Rattle.pc_machine.specs.Reachable.{IsReachable}
use Rattle.pc_object.specs.ObjectText.{row_text}
use Rattle.pc_emit.specs.declared.form.RegionForm.{RegionForm as StoredForm}
use Rattle.pc_emit.specs.declared.form.RegionForm.TheVariants as stored
use Rattle.pc_emit.specs.Emitted.{RegionForm, Plain, ByAutomaton, Emission, BeginsAtFirstRow, IsEmitted}
use Rattle.pc_emit.specs.Leading.{IsMet}
use Rattle.pc_emit.specs.Bytes.{regions_bytes}

-- ---- what is emitted

-- the form of a region, if it has one
abbrev pub form_in : Option (Option StoredForm) → Option RegionForm
form_in None = None
form_in (Some None) = None
form_in (Some (Some stored.Plain)) = Some Plain
form_in (Some (Some (stored.ByAutomaton automaton registers))) = Some (ByAutomaton (states_in automaton) (registers_in registers))

-- the form of each region
abbrev pub region_forms : List (Option StoredForm) → ℕ → Option RegionForm
region_forms forms region = form_in (slice_get forms region)

-- what is emitted where each region begins at one of these rows: the states of an automaton stand in their order
abbrev pub emission_of : Table → List (Option StoredForm) → (entries : List ℕ) → (ops : ℕ) → Emission
emission_of table forms entries ops = record {
  table = table;
  forms = region_forms forms;
  places = record { entry = slice_index entries; state = λ region number. slice_index entries region + number };
  ops = ops;
}

-- So many registers are enough for these forms: all variables are among them, and in each form the register that is left for
-- moves, below which stand those of all names.
pub record AreEnough (count : ℕ) (forms : ℕ → Option RegionForm) : Type 0 where
  pub variables : 96 ≤ count
  pub left : (region : ℕ) (states : List AutomatonState) (registers : Registers) → forms region ≡ Some (ByAutomaton states registers)
      → registers.scratch < count

-- These rows are those of a table's regions in these forms, and row 0 is the first of region 0 where that has an automaton. There
-- is one; each keeps the limits of the machine and its own, and names none but the registers that are enough for the forms; leaves
-- lead to each from row 0, and together they are no longer than was counted.
pub record AreEmitted (table : Table) (forms : List (Option StoredForm)) (limits : Limits) (rows : List CodeRow) : Type 0 where
  pub entries : List ℕ
  pub are : IsEmitted (emission_of table forms entries limits.ops) rows
  pub first_row : BeginsAtFirstRow (emission_of table forms entries limits.ops)
  pub some : 1 ≤ length rows
  pub fit : (count : ℕ) → AreEnough count (region_forms forms) → AllByRecursion (IsRow limits count (length table.arrays) (length rows)) rows
  pub reached : (row : ℕ) → row < length rows → IsReachable rows row
  pub short : length (flat_map row_text rows) ≤ regions_bytes (region_forms forms) 0 table.regions

-- ---- what that needs

-- a region of the table that has a form
pub record HasForm (table : Table) (forms : ℕ → Option RegionForm) (region : ℕ) : Type 0 where
  pub there : region < length table.regions
  pub form : RegionForm
  pub has : forms region ≡ Some form

-- each region that a tree leads to has one
abbrev pub NamesHaveForms : Table → (ℕ → Option RegionForm) → TableTree → Type 0
NamesHaveForms table forms (Does origin item rest) = NamesHaveForms table forms rest
NamesHaveForms table forms (Asks origin on on_yes on_no) = NamesHaveForms table forms on_yes × NamesHaveForms table forms on_no
NamesHaveForms table forms (Next region) = HasForm table forms region
NamesHaveForms table forms Stops_here = Unit {0}
NamesHaveForms table forms (Traps_here kind line) = Unit {0}

-- so has a region that a leaf leads out to
abbrev pub LeadsToForm : Table → (ℕ → Option RegionForm) → AutomatonLeaf → Type 0
LeadsToForm table forms (To state arguments) = Unit {0}
LeadsToForm table forms (Out region homes) = HasForm table forms region
LeadsToForm table forms Stop = Unit {0}
LeadsToForm table forms (Trap kind line) = Unit {0}

-- an automaton that may be emitted: names that are live together have different registers, all registers are below the one that is
-- left for moves, and so are all variables, what its leaves lead out to is there and has a form, its rows keep the limits, and each
-- state but the first is reachable
pub record CanPack (table : Table) (limits : Limits) (forms : ℕ → Option RegionForm) (states : List AutomatonState) (registers : Registers)
    : Type 0 where
  pub automaton : IsAutomaton states
  pub apart : (number : ℕ) (state : AutomatonState) → slice_get states number ≡ Some state → IsApart registers.scratch (registers.of number) state
  pub below : (number name register : ℕ) → registers.of number name ≡ Some register → register < registers.scratch
  pub variables : 96 ≤ registers.scratch
  pub most : registers.scratch < most_registers
  pub there : AllByRecursion (StateIsThere table) states
  pub out : (number : ℕ) (state : AutomatonState) → slice_get states number ≡ Some state → AllByRecursion (LeadsToForm table forms) (leaves_of state.row)
  pub fit : AllByRecursion (λ state. RowFits limits state.row) states
  pub led : EachIsReachable states

-- a form that may be emitted, of a region with this tree
abbrev pub CanHave : Table → Limits → (ℕ → Option RegionForm) → TableTree → RegionForm → Type 0
CanHave table limits forms tree Plain = NamesHaveForms table forms tree
CanHave table limits forms tree (ByAutomaton states registers) = CanPack table limits forms states registers

-- Forms of a table's regions that may be emitted: region 0 has one, each is one that its region may have, only regions that
-- are led to from region 0 have one, no region that is a trap alone is plain, and the rows are short enough.
pub record AreForms (table : Table) (limits : Limits) (forms : ℕ → Option RegionForm) : Type 0 where
  pub first : HasForm table forms 0
  pub each : (region : ℕ) (form : RegionForm) → forms region ≡ Some form → CanHave table limits forms (region_tree table region) form
  pub met : (region : ℕ) (form : RegionForm) → forms region ≡ Some form → IsMet table forms region
  pub traps : (region line : ℕ) (kind : TrapKind) → region_tree table region ≡ Traps_here kind line → forms region ≡ Some Plain → ⊥
  pub short : regions_bytes forms 0 table.regions ≤ most_object
