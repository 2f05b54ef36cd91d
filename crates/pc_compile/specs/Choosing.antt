-- How the regions of a table get their forms: they are taken in the order in which they are found, region 0 first, and each
-- gets the first form that is not refused.
use Rattle.std.specs.Prelude.{◌≡◌, ℕ, ℤ, suc, ◌<◌, ◌≤◌, nat_eq, nat_lt, Bool, true, false, ◌&&◌, if◌then◌else◌}
use Rattle.std.specs.Prelude.{List, [], ◌∷◌, ◌++◌, length, Option, Some, None, is_some, slice_get}
use Rattle.std.specs.List.{list_any}
use Rattle.pc_word.specs.declared.item.Limits.{Limits}
use Rattle.pc_word.specs.declared.item.Extent.{Extent}
use Rattle.pc_word.specs.MachineLimits.{most_rows, most_object}
use Rattle.pc_table.specs.Table.{Table, region_tree}
use Rattle.pc_table.specs.Loops.{innermost_loop}
use Rattle.pc_automaton.specs.Automaton.{AutomatonState}
use Rattle.pc_pattern.specs.Searches.{Rules, HasNoPattern}
use Rattle.pc_pattern.specs.Pattern.{rules_for, IsFound}
use Rattle.pc_assign.specs.Pressure.{most_scratch, IsFirstHigh, LowBefore}
use Rattle.pc_assign.specs.Assigned.{Registers, IsAssigned}
use Rattle.pc_emit.specs.Emitted.{RegionForm, Plain, ByAutomaton}
use Rattle.pc_emit.specs.Leading.{form_leads}
use Rattle.pc_emit.specs.Bytes.{object_bytes}
use Rattle.pc_compile.specs.declared.choice.Form.{Form}
use Rattle.pc_compile.specs.declared.choice.Form.TheVariants as form
use Rattle.pc_compile.specs.declared.choice.Cause.{Cause}
use Rattle.pc_compile.specs.declared.choice.Cause.TheVariants.{Rows, Live, Bytes}
use Rattle.pc_compile.specs.declared.choice.Choice.{Choice}

-- ---- forms

-- the forms, with this one for a region
abbrev pub with_region_form : (ℕ → Option RegionForm) → (region : ℕ) → RegionForm → ℕ → Option RegionForm
with_region_form forms region form other = if nat_eq other region then Some form else forms other

-- the bytes that are counted where a region gets this form: regions that have no form yet are counted as plain
abbrev pub bytes_with : Table → (initial : List (List ℤ)) → (ℕ → Option RegionForm) → (region : ℕ) → RegionForm → ℕ
bytes_with table initial forms region form = object_bytes table initial (with_region_form forms region form)

-- ---- searches

-- the search for a pipelined form, whose windows may hold so many iterations of a loop
abbrev pub pipelines : Table → Limits → Extent → Rules
pipelines table limits extent = rules_for table limits extent.window

-- the search for a packed form, in which nothing is unwound
abbrev pub packs : Table → Limits → Rules
packs table limits = rules_for table limits 1

-- states that a search finds within so many rows, with registers for their names
pub record HasRegisters (rules : Rules) (region rows : ℕ) (states : List AutomatonState) (registers : Registers) : Type 0 where
  pub found : IsFound rules region rows states
  pub low : LowBefore most_scratch states (length states)
  pub assigned : IsAssigned states registers

-- Why a region does not get the form of a search within so many rows, where so many bytes are counted for each form of it: the
-- search comes to more windows than rows; or the first state of too high a pressure has this; or the object would have so many
-- bytes.
pub data IsFormRefused (rules : Rules) (region rows : ℕ) (bytes : RegionForm → ℕ) : Cause → Type 0 where
  Many_rows : HasNoPattern rules region rows → IsFormRefused rules region rows bytes (Rows (suc rows) rows)
  High_pressure : {states : List AutomatonState} {number live : ℕ} → IsFound rules region rows states → IsFirstHigh states number live
      → IsFormRefused rules region rows bytes (Live live most_scratch)
  Many_bytes : {states : List AutomatonState} {registers : Registers} → HasRegisters rules region rows states registers
      → most_object < bytes (ByAutomaton states registers)
      → IsFormRefused rules region rows bytes (Bytes (bytes (ByAutomaton states registers)) most_object)

-- ---- what a region gets

-- whether a pipelined form is tried: a window may hold more than one iteration of a loop, and the region is the header of an innermost
-- one
abbrev pub may_pipeline : Table → Extent → (region : ℕ) → Bool
may_pipeline table extent region = nat_lt 1 extent.window && is_some (innermost_loop table region)

-- why a region is not pipelined: that is not tried, and there is no cause, or it is tried and refused
pub data PassesOver (table : Table) (limits : Limits) (extent : Extent) (region : ℕ) (bytes : RegionForm → ℕ) : List Cause → Type 0 where
  Is_not_tried : may_pipeline table extent region ≡ false → PassesOver table limits extent region bytes []
  Is_refused : {cause : Cause} → may_pipeline table extent region ≡ true
      → IsFormRefused (pipelines table limits extent) region extent.rows bytes cause
      → PassesOver table limits extent region bytes (cause ∷ [])

-- The form that a region gets, what kind of form it is, and why it got none before: it is pipelined; or packed, where that is
-- passed over; or plain, where packing is refused too.
pub data Gets (table : Table) (limits : Limits) (extent : Extent) (region : ℕ) (bytes : RegionForm → ℕ) : RegionForm → Form → List Cause → Type 0 where
  Gets_pipelined : {states : List AutomatonState} {registers : Registers} → may_pipeline table extent region ≡ true
      → HasRegisters (pipelines table limits extent) region extent.rows states registers → bytes (ByAutomaton states registers) ≤ most_object
      → Gets table limits extent region bytes (ByAutomaton states registers) (form.Pipelined (length states) extent.rows) []
  Gets_packed : {states : List AutomatonState} {registers : Registers} {causes : List Cause}
      → PassesOver table limits extent region bytes causes
      → HasRegisters (packs table limits) region most_rows states registers → bytes (ByAutomaton states registers) ≤ most_object
      → Gets table limits extent region bytes (ByAutomaton states registers) form.Packed causes
  Gets_plain : {causes : List Cause} {cause : Cause} → PassesOver table limits extent region bytes causes
      → IsFormRefused (packs table limits) region most_rows bytes cause
      → Gets table limits extent region bytes Plain form.Plain (causes ++ (cause ∷ []))

-- ---- regions that are found

-- regions that were found, and this one after them, if it was not
abbrev pub with_region : List ℕ → ℕ → List ℕ
with_region found region = if list_any (nat_eq region) found then found else found ++ (region ∷ [])

-- the same for each of some regions, in their order
abbrev pub with_regions : List ℕ → List ℕ → List ℕ
with_regions found [] = found
with_regions found (region ∷ regions) = with_regions (with_region found region) regions

-- ---- the whole

-- what is chosen for a region
abbrev pub choice_of : (region : ℕ) → Form → List Cause → Choice
choice_of region kind causes = record { region = region; form = kind; causes = causes }

-- regions that were found, what was chosen for the first of them, which were taken, and the forms that there are then
pub data Choosing (table : Table) (initial : List (List ℤ)) (limits : Limits) (extent : Extent) : (found : List ℕ) → (choices : List Choice) → (forms : ℕ → Option RegionForm)
    → Type 0 where
  Begins : Choosing table initial limits extent (0 ∷ []) [] (λ region. None)
  Takes : {found : List ℕ} {choices : List Choice} {forms : ℕ → Option RegionForm} {region : ℕ} {chosen : RegionForm} {kind : Form}
      {causes : List Cause} → Choosing table initial limits extent found choices forms → slice_get found (length choices) ≡ Some region
      → Gets table limits extent region (bytes_with table initial forms region) chosen kind causes
      → Choosing table initial limits extent (with_regions found (form_leads (region_tree table region) chosen))
      (choices ++ (choice_of region kind causes ∷ [])) (with_region_form forms region chosen)

-- what was chosen, and the forms: each region that was found was taken
pub record AreChosen (table : Table) (initial : List (List ℤ)) (limits : Limits) (extent : Extent) (choices : List Choice) (forms : ℕ → Option RegionForm) : Type 0 where
  pub found : List ℕ
  pub choosing : Choosing table initial limits extent found choices forms
  pub all : length choices ≡ length found
