-- Where the rows of each region will stand, before any is made.
use Rattle.std.specs.Prelude.{◌≡◌, ℕ, zero, suc, ◌<◌, ◌≤◌, ◌+◌, ◌^◌, List, [], ◌∷◌, Option, Some, None, length, slice_index}
use Rattle.pc_word.specs.Ranges.{AreLimits}
use Rattle.pc_word.specs.Row.{At_leaf}
use Rattle.pc_table.specs.Table.{TableTree, Does, Asks, Next, Stops_here, Traps_here, Table, region_tree, table_tree}
use Rattle.pc_table.specs.StoredTable.{table_of}
use Rattle.pc_table.specs.declared.table.Region.{Region}
use Rattle.pc_table.specs.TableKeeps.{units, TableKeeps}
use Rattle.pc_automaton.specs.Automaton.{AutomatonState, states_in}
use Rattle.pc_assign.specs.Assigned.{Registers}
use Rattle.pc_assign.specs.Stored.{registers_in}
use Rattle.pc_machine.specs.declared.tree.Leaf.{Leaf}
use Rattle.pc_machine.specs.declared.tree.Leaf.TheVariants.{Goto, Stop, Trap}
use Rattle.pc_machine.specs.MachineCode.{CodeRow}
use Rattle.pc_emit.specs.Registers.{register_of}
use Rattle.pc_emit.specs.declared.form.RegionForm.{RegionForm as StoredForm}
use Rattle.pc_emit.specs.declared.form.RegionForm.TheVariants as stored
use Rattle.pc_emit.specs.Emitted.{RegionForm, Plain, ByAutomaton, Emission, root_leaf}
use Rattle.pc_emit.specs.Emitting.{form_in, region_forms, emission_of, AreEnough, AreForms}
use Rattle.pc_emit.specs.declared.plan.Plan.{Plan}
use Rattle.pc_emit.specs.declared.packed.PackedSite.{PackedSite}

-- ---- rows and entries

-- the rows of a region with this tree: one for each state of its automaton, or one for each item and test
abbrev pub rows_in : TableTree → Option RegionForm → ℕ
rows_in tree None = zero
rows_in tree (Some Plain) = units tree
rows_in tree (Some (ByAutomaton states registers)) = length states

-- the row in front of all others, where region 0 is plain and a stop or a trap: that leaf alone
abbrev pub leaf_alone : TableTree → List CodeRow
leaf_alone (Does origin item rest) = []
leaf_alone (Asks origin on on_yes on_no) = []
leaf_alone (Next region) = []
leaf_alone Stops_here = At_leaf Stop ∷ []
leaf_alone (Traps_here kind line) = At_leaf (Trap kind line) ∷ []

abbrev pub front_rows : TableTree → Option RegionForm → List CodeRow
front_rows tree None = []
front_rows tree (Some Plain) = leaf_alone tree
front_rows tree (Some (ByAutomaton states registers)) = []

-- the rows of all regions
abbrev pub all_rows : List Region → List (Option StoredForm) → ℕ
all_rows (region ∷ regions) (form ∷ forms) = rows_in (table_tree region.tree) (form_in (Some form)) + all_rows regions forms
all_rows _ _ = zero

-- the row at which each region begins, the first of them at this one; and, last, the row after them all
abbrev pub entries_from : (row : ℕ) → List Region → List (Option StoredForm) → List ℕ
entries_from row (region ∷ regions) (form ∷ forms) =
    row ∷ entries_from (row + rows_in (table_tree region.tree) (form_in (Some form))) regions forms
entries_from row _ _ = row ∷ []

-- each region begins where the one before it ends, and the first after the row in front
pub record AreEntries (table : Table) (forms : ℕ → Option RegionForm) (entries : List ℕ) : Type 0 where
  pub as_many : length entries ≡ suc (length table.regions)
  pub first : slice_index entries 0 ≡ length (front_rows (region_tree table 0) (forms 0))
  pub next : (region : ℕ) → region < length table.regions → slice_index entries (suc region) ≡ slice_index entries region + rows_in (region_tree table region) (forms region)
  pub few : slice_index entries (length table.regions) < 2 ^ 32

-- ---- plans

-- the regions and forms of a plan
abbrev pub table_in : Plan → Table
table_in plan = table_of plan.table.now

abbrev pub forms_at : Plan → ℕ → Option RegionForm
forms_at plan = region_forms plan.forms.now

-- what a plan emits
abbrev pub emission_in : Plan → Emission
emission_in plan = emission_of (table_in plan) plan.forms.now plan.entries.now plan.limits.ops

-- the row after those of all regions
abbrev pub rows_end : Plan → ℕ
rows_end plan = slice_index plan.entries.now (length plan.table.now.regions)

-- the forms may be emitted, and there is an entry for each region
pub record IsPlan (plan : Plan) : Type 0 where
  pub kept : TableKeeps (table_in plan)
  pub limits : AreLimits plan.limits
  pub count : length plan.forms.now ≡ length plan.table.now.regions
  pub forms : AreForms (table_in plan) plan.limits (forms_at plan)
  pub entries : AreEntries (table_in plan) (forms_at plan) plan.entries.now

-- a register is one of those that are enough for the forms
abbrev pub IsLeft : Plan → ℕ → Type 0
IsLeft plan scratch = (count : ℕ) → AreEnough count (forms_at plan) → scratch < count

-- the leaf that leads to a region that begins at this row and has this form, if it has one
abbrev pub leaf_in : (row : ℕ) → TableTree → Option StoredForm → Leaf
leaf_in row tree None = Stop
leaf_in row tree (Some stored.Plain) = root_leaf row tree
leaf_in row tree (Some (stored.ByAutomaton automaton registers)) = Goto row

-- ---- packed regions

-- the states of a packed region, and the registers of their names
abbrev pub states_at : PackedSite → List AutomatonState
states_at site = states_in site.automaton.now

abbrev pub registers_at : PackedSite → Registers
registers_at site = registers_in site.registers.now

-- the register of each name of a state
abbrev pub names_at : PackedSite → ℕ → ℕ → ℕ
names_at site number = register_of ((registers_at site).of number)

-- the region begins at its entry, has this form, and ends before the end
pub record IsSite (plan : Plan) (site : PackedSite) : Type 0 where
  pub begins : site.first ≡ slice_index plan.entries.now site.region
  pub form : forms_at plan site.region ≡ Some (ByAutomaton (states_at site) (registers_at site))
  pub few : site.first + length site.automaton.now ≤ rows_end plan
