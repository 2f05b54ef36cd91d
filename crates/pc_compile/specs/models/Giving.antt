-- Forms in memory, and what comes of trying them.
use Rattle.std.specs.Prelude.{◌≡◌, ℕ, ◌<◌, ◌≤◌, ◌^◌, List, length}
use Rattle.std.specs.List.{AllByRecursion}
use Rattle.pc_word.specs.declared.item.Limits.{Limits}
use Rattle.pc_word.specs.declared.item.Extent.{Extent}
use Rattle.pc_word.specs.MachineLimits.{most_object}
use Rattle.pc_table.specs.Table.{TableTree, Table, region_tree}
use Rattle.pc_automaton.specs.declared.automaton.AutomatonState.{AutomatonState as StoredState}
use Rattle.pc_automaton.specs.Automaton.{states_in}
use Rattle.pc_pattern.specs.Searches.{Rules}
use Rattle.pc_assign.specs.declared.assigned.Assigned.{Assigned}
use Rattle.pc_assign.specs.Stored.{registers_in}
use Rattle.pc_emit.specs.declared.form.RegionForm.{RegionForm as StoredForm}
use Rattle.pc_emit.specs.declared.form.RegionForm.TheVariants as stored
use Rattle.pc_emit.specs.Emitted.{RegionForm, Plain, ByAutomaton}
use Rattle.pc_compile.specs.models.Leaves.{LeavesKeep}
use Rattle.pc_compile.specs.declared.trying.Attempt.{Attempt}
use Rattle.pc_compile.specs.declared.trying.Attempt.TheVariants.{Fits, Refused}
use Rattle.pc_compile.specs.declared.giving.Given.{Given}
use Rattle.pc_compile.specs.Choosing.{HasRegisters, IsFormRefused, Gets}
use Rattle.pc_compile.specs.models.Counting.{bytes_beside}
use Rattle.pc_compile.specs.models.Marked.{NamesBelow, LeadsBelow}

-- the form that a form in memory is
abbrev pub form_of : StoredForm → RegionForm
form_of stored.Plain = Plain
form_of (stored.ByAutomaton automaton registers) = ByAutomaton (states_in automaton) (registers_in registers)

-- the states of a form in memory have numbers
abbrev pub HasNumbers : StoredForm → Type 0
HasNumbers stored.Plain = Unit {0}
HasNumbers (stored.ByAutomaton automaton registers) = length automaton < 2 ^ 32

-- each region that a region with this tree leads to in a form is below a number
abbrev pub FormLeadsBelow : ℕ → TableTree → RegionForm → Type 0
FormLeadsBelow count tree Plain = NamesBelow count tree
FormLeadsBelow count tree (ByAutomaton states registers) = AllByRecursion (λ state. LeavesKeep (LeadsBelow count) state.row) states

-- the bytes of an object where all but a region has so many, and the region has a form
abbrev pub bytes_of : Table → (region others : ℕ) → RegionForm → ℕ
bytes_of table region others = bytes_beside others (region_tree table region)

-- an automaton with registers that a search finds for a region, with the bytes of the object then
pub record IsFitting (rules : Rules) (region rows : ℕ) (counts : RegionForm → ℕ) (automaton : List StoredState) (registers : Assigned) (bytes : ℕ)
    : Type 0 where
  pub has : HasRegisters rules region rows (states_in automaton) (registers_in registers)
  pub counted : bytes ≡ counts (ByAutomaton (states_in automaton) (registers_in registers))
  pub short : bytes ≤ most_object
  pub numbers : length automaton < 2 ^ 32

-- what comes of trying the form of a search, where so many bytes are counted for each form
abbrev pub IsAttempt : Rules → (region rows : ℕ) → (RegionForm → ℕ) → Attempt → Type 0
IsAttempt rules region rows counts (Fits automaton registers bytes) = IsFitting rules region rows counts automaton registers bytes
IsAttempt rules region rows counts (Refused cause) = IsFormRefused rules region rows counts cause

-- the form that a region gets, where all but it has so many bytes, with the bytes of the object then
pub record IsGiven (table : Table) (limits : Limits) (extent : Extent) (region others : ℕ) (given : Given) : Type 0 where
  pub gets : Gets table limits extent region (bytes_of table region others) (form_of given.form) given.kind given.causes
  pub counted : given.bytes ≡ bytes_of table region others (form_of given.form)
  pub short : given.bytes ≤ most_object
  pub numbers : HasNumbers given.form
