-- The states that are told of a loop are those of the form that its region was given.
use Rattle.std.proofs.Common.{◌≡◌, ℕ, List, [], ◌∷◌, Option, Some, None, refl, sym, ap, subst}
use Rattle.std.specs.Prelude.{ℤ}
use Rattle.std.specs.List.{AllByRecursion}
use Rattle.pc_word.specs.declared.item.Extent.{Extent}
use Rattle.pc_word.specs.declared.item.Limits.{Limits}
use Rattle.pc_word.specs.MachineLimits.{most_rows}
use Rattle.pc_word.proofs.Lists.{all_at, all_both, all_imply}
use Rattle.pc_flow.specs.FlowGraph.{FlowGraph}
use Rattle.pc_table.specs.Table.{Table}
use Rattle.pc_table.specs.TableKeeps.{TableKeeps}
use Rattle.pc_window.specs.Steps.{Positive}
use Rattle.pc_automaton.specs.Automaton.{AutomatonState}
use Rattle.pc_assign.specs.Assigned.{Registers}
use Rattle.pc_pattern.specs.Pattern.{rules_for}
use Rattle.pc_pattern.specs.Searches.{IsPattern}
use Rattle.pc_pattern.proofs.OneStates.{patterns_one}
use Rattle.pc_emit.specs.Emitted.{RegionForm, ByAutomaton}
use Rattle.pc_compile.specs.declared.choice.Cause.{Cause}
use Rattle.pc_compile.specs.declared.choice.Choice.{Choice}
use Rattle.pc_compile.specs.declared.choice.Form.{Form}
use Rattle.pc_compile.specs.Choosing.{Gets, Gets_pipelined, Gets_packed, Gets_plain, with_region_form, choice_of, Choosing, Begins, Takes}
use Rattle.pc_compile.proofs.Counting.{with_region_form-same, form_stays}
use Rattle.pc_compile.proofs.Taken.{next_is_free}
use Rattle.pc_explain.specs.Explained.{LoopSchedule, Explanation, search_extent, IsScheduleFor, IsExplained, AreExplained, none_left, passed_over, explained}
use Rattle.pc_explain.specs.Laws.{IsFormTold, ToldStatesAreEmitted, ExplanationsTellForms}

module _ (table : Table) (keeps : TableKeeps table) (initial : List (List ℤ)) (limits : Limits) (room : Positive limits) (extent : Extent) (flow : FlowGraph) where
  -- a search that finds states again finds the same
  found_again : (region number rows : ℕ) (states : List AutomatonState) (registers : Registers) (schedule : LoopSchedule)
      → IsPattern (rules_for table limits number) region rows states → IsPattern (rules_for table limits number) region rows schedule.states
      → IsFormTold (Some schedule) (Some (ByAutomaton states registers))
  found_again region number rows states registers schedule one other =
      (registers, ap (λ (all : List AutomatonState). Some (ByAutomaton all registers)) (patterns_one (rules_for table limits number) keeps room region rows rows states schedule.states one other))

  -- the schedule of the form that a region gets
  gets_told : (region : ℕ) (bytes : RegionForm → ℕ) (chosen : RegionForm) (kind : Form) (causes : List Cause)
      → Gets table limits extent region bytes chosen kind causes
      → (schedule : Option LoopSchedule) → IsScheduleFor flow table limits region (search_extent extent kind) schedule → IsFormTold schedule (Some chosen)
  gets_told region bytes chosen kind causes (Gets_pipelined {states} {registers} may has short) None is = absurd is
  gets_told region bytes chosen kind causes (Gets_pipelined {states} {registers} may has short) (Some schedule) is =
      found_again region extent.window extent.rows states registers schedule has.found.pattern is.found.pattern
  gets_told region bytes chosen kind causes (Gets_packed {states} {registers} passed has short) None is = absurd is
  gets_told region bytes chosen kind causes (Gets_packed {states} {registers} passed has short) (Some schedule) is =
      found_again region 1 most_rows states registers schedule has.found.pattern is.found.pattern
  gets_told region bytes chosen kind causes (Gets_plain passed refused) None is = refl
  gets_told region bytes chosen kind causes (Gets_plain passed refused) (Some schedule) is = absurd is

  -- the region of a choice has a form, and what is told of it is this one
  record HasFormTold (forms : ℕ → Option RegionForm) (choice : Choice) : Type 0 where
    form : RegionForm
    has : forms choice.region ≡ Some form
    told : (schedule : Option LoopSchedule) → IsScheduleFor flow table limits choice.region (search_extent extent choice.form) schedule → IsFormTold schedule (Some form)

  -- each choice keeps its form while further regions get theirs, since no region is taken again
  each_told : (found : List ℕ) (choices : List Choice) (forms : ℕ → Option RegionForm)
      → Choosing table initial limits extent found choices forms → AllByRecursion (HasFormTold forms) choices
  each_told found choices forms Begins = tt
  each_told found choices forms (Takes {found = before} {choices = earlier} {forms = had} {region} {chosen} {kind} {causes} choosing next gets) =
      let now = with_region_form had region chosen in
      let free = next_is_free table initial limits extent before earlier had choosing region next in
      all_both (HasFormTold now) earlier (choice_of region kind causes ∷ [])
      (all_imply (HasFormTold had) (HasFormTold now) earlier
      (λ choice it. record { form = it.form; has = form_stays had region choice.region chosen it.form free it.has; told = it.told })
      (each_told before earlier had choosing))
      (record { form = chosen; has = with_region_form-same had region chosen; told = gets_told region _ chosen kind causes gets }, tt)

  -- what explains a choice tells its form, and so do the explanations of all
  one_told : (forms : ℕ → Option RegionForm) (line : ℕ) (choice : Choice) (explanation : Explanation) → HasFormTold forms choice
      → IsExplained flow table limits extent line choice explanation → IsFormTold explanation.schedule (forms choice.region)
  one_told forms line choice explanation it is =
      subst (λ (form : Option RegionForm). IsFormTold explanation.schedule form) (sym it.has) (it.told explanation.schedule is.scheduled)

  all_told : (forms : ℕ → Option RegionForm) {asked : Option ℕ} {choices : List Choice} {explanations : List Explanation}
      → AllByRecursion (HasFormTold forms) choices → AreExplained flow table limits extent asked choices explanations
      → AllByRecursion (λ it. IsFormTold it.schedule (forms it.region)) explanations
  all_told forms each none_left = tt
  all_told forms each (passed_over none rest) = all_told forms each.1 rest
  all_told forms each (explained {line} {choice} {explanation} some is rest) = (
    subst (λ (region : ℕ). IsFormTold explanation.schedule (forms region)) (sym is.header) (one_told forms line choice explanation each.0 is),
    all_told forms each.1 rest,
  )

pub told_are_emitted : ToldStatesAreEmitted
told_are_emitted table keeps initial limits room extent choices forms are place choice there flow line explanation is =
    let each = each_told table keeps initial limits room extent flow are.found choices forms are.choosing in
    let it = all_at (HasFormTold table keeps initial limits room extent flow forms) choices place choice each there in
    one_told table keeps initial limits room extent flow forms line choice explanation it is

pub explanations_tell_forms : ExplanationsTellForms
explanations_tell_forms table keeps initial limits room extent choices forms are flow asked explanations is =
    all_told table keeps initial limits room extent flow forms (each_told table keeps initial limits room extent flow are.found choices forms are.choosing) is
