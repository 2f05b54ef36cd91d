-- What is explained can be written.
use Rattle.std.proofs.Common.{◌≡◌, ℕ, ◌-◌, ◌≤◌, List, length, Option, Some, None, sym, ◌∙◌, ap, subst, arith}
use Rattle.std.specs.Prelude.{IfSome, slice_get}
use Rattle.std.specs.List.{AllByRecursion}
use Rattle.pc_word.specs.declared.item.Extent.{Extent}
use Rattle.pc_word.specs.declared.item.Limits.{Limits}
use Rattle.pc_word.specs.MachineLimits.{most_rows}
use Rattle.pc_word.specs.Ranges.{AreLimits, IsExtent}
use Rattle.pc_word.proofs.Lists.{all_imply}
use Rattle.pc_flow.specs.FlowGraph.{FlowGraph}
use Rattle.pc_table.specs.Table.{Table}
use Rattle.pc_object.specs.ObjectText.{IsChoice}
use Rattle.pc_compile.specs.declared.choice.Cause.{Cause}
use Rattle.pc_compile.specs.declared.choice.Cause.TheVariants.{Rows, Live, Bytes}
use Rattle.pc_compile.specs.declared.choice.Choice.{Choice}
use Rattle.pc_compile.specs.declared.choice.Form.{Form}
use Rattle.pc_compile.specs.declared.choice.Form.TheVariants.{Pipelined, Packed, Plain}
use Rattle.pc_compile.specs.Notes.{caused_note, packed_note, plain_notes, form_notes}
use Rattle.pc_explain.proofs.Held.{as_many_hold}
use Rattle.pc_cycles.specs.declared.cycle.Cycle.{Cycle}
use Rattle.pc_cycles.specs.Cycles.{IsCycle}
use Rattle.pc_cycles.proofs.Ways.{few_leaves}
use Rattle.pc_explain.specs.Explained.{LoopSchedule, Explanation, search_extent, IsScheduleOf, IsScheduleFor, IsExplained, HasEach, ScheduleCanBeWritten, CanBeWritten}
use Rattle.pc_explain.specs.Explained.{AreExplained, none_left, passed_over, explained}

-- ---- notes

caused_known : (line first : ℕ) (cause : Cause) → first ≤ 5 → IsChoice (caused_note line first cause)
caused_known line first (Rows number limit) low = omega (arith, low)
caused_known line first (Live number limit) low = omega (arith, low)
caused_known line first (Bytes number limit) low = omega (arith, low)

packed_known : (line : ℕ) (cause : Option Cause) → IsChoice (packed_note line cause)
packed_known line None = omega arith
packed_known line (Some cause) = caused_known line 1 cause (omega arith)

plain_known : (line : ℕ) (cause : Option Cause) → AllByRecursion IsChoice (plain_notes line cause)
plain_known line None = tt
plain_known line (Some cause) = (caused_known line 5 cause (omega arith), tt)

-- the choice of a form's note is known
form_known : (line : ℕ) (form : Form) (causes : List Cause) → AllByRecursion IsChoice (form_notes line form causes)
form_known line (Pipelined states rows) causes = (omega arith, tt)
form_known line Packed causes = (packed_known line (slice_get causes 0), tt)
form_known line Plain causes = plain_known line (slice_get causes (length causes - 1))

-- ---- schedules

module _ (flow : FlowGraph) (table : Table) (limits : Limits) (limited : AreLimits limits) (extent : Extent) (is : IsExtent extent) where
  -- a search has at most as many rows as there may be
  few_rows : (form : Form) → IfSome (search_extent extent form) (λ search. search.rows ≤ most_rows)
  few_rows (Pipelined states rows) = is.rows.1
  few_rows Packed = omega arith
  few_rows Plain = tt

  -- names that hold scalars are told of each state
  held_each : (region : ℕ) (search : Extent) (schedule : LoopSchedule) → IsScheduleOf flow table limits search region schedule
      → length schedule.holdings ≡ length schedule.states
  held_each region search schedule is =
      ap length is.held ∙ as_many_hold flow schedule.states schedule.tellings is.told.as_many

  -- each part of a schedule can be shown
  has_each : (region : ℕ) (search : Extent) (schedule : LoopSchedule) → search.rows ≤ most_rows
      → IsScheduleOf flow table limits search region schedule → HasEach schedule
  has_each region search schedule few is =
      let states = is.found.few in
      let tests = limited.tests.1 in
      record {
        few = omega (arith, states, few);
        as_many = is.told.as_many;
        as_many_wait = is.told.as_many_wait;
        as_many_hold = held_each region search schedule is;
        few_leaves = few_leaves limits schedule.states (omega (arith, tests)) is.found.fits;
        circles = all_imply (IsCycle limits schedule.states schedule.tellings schedule.waits) (λ (cycle : Cycle). 1 ≤ length cycle.transitions) schedule.cycles
            (λ cycle it. it.some) is.cycles;
      }

  schedule_can : (region : ℕ) (search : Option Extent) (schedule : Option LoopSchedule) → IfSome search (λ extent. extent.rows ≤ most_rows)
      → IsScheduleFor flow table limits region search schedule → IfSome schedule (ScheduleCanBeWritten limits)
  schedule_can region None None few is = tt
  schedule_can region None (Some schedule) few is = absurd is
  schedule_can region (Some search) None few is = absurd is
  schedule_can region (Some search) (Some schedule) few is =
      record { each = has_each region search schedule few is; fits = is.found.fits }

  one_can : (line : ℕ) (choice : Choice) (explanation : Explanation) → IsExplained flow table limits extent line choice explanation → CanBeWritten limits explanation
  one_can line choice explanation is = record {
    known = subst (AllByRecursion IsChoice) (sym is.noted) (form_known line choice.form choice.causes);
    schedule = schedule_can choice.region (search_extent extent choice.form) explanation.schedule (few_rows choice.form) is.scheduled;
  }

  pub all_can : {asked : Option ℕ} {choices : List Choice} {explanations : List Explanation}
      → AreExplained flow table limits extent asked choices explanations → AllByRecursion (CanBeWritten limits) explanations
  all_can none_left = tt
  all_can (passed_over none rest) = all_can rest
  all_can (explained {line} {choice} {explanation} some tells rest) = (one_can line choice explanation tells, all_can rest)
