-- The laws of explanations. They are the contract of a function of laws.rt, which does nothing.
use Rattle.std.specs.Prelude.{◌≡◌, ℕ, ℤ, List, Option, Some, None, slice_get}
use Rattle.std.specs.List.{AllByRecursion}
use Rattle.pc_word.specs.declared.item.Extent.{Extent}
use Rattle.pc_word.specs.declared.item.Limits.{Limits}
use Rattle.pc_flow.specs.FlowGraph.{FlowGraph}
use Rattle.pc_table.specs.Table.{Table}
use Rattle.pc_table.specs.TableKeeps.{TableKeeps}
use Rattle.pc_window.specs.Steps.{Positive}
use Rattle.pc_assign.specs.Assigned.{Registers}
use Rattle.pc_emit.specs.Emitted.{RegionForm, Plain, ByAutomaton}
use Rattle.pc_compile.specs.declared.choice.Choice.{Choice}
use Rattle.pc_compile.specs.Choosing.{AreChosen}
use Rattle.pc_explain.specs.Explained.{LoopSchedule, Explanation, IsExplained, AreExplained}

-- the form that is emitted has the states that are told, with some registers; where none are told, it is the plain form
abbrev pub IsFormTold : Option LoopSchedule → Option RegionForm → Type 0
IsFormTold (Some schedule) form = (registers : Registers) × (form ≡ Some (ByAutomaton schedule.states registers))
IsFormTold None form = form ≡ Some Plain

-- what is told is what is emitted: whatever explains one of the choices tells the form that its region was given
abbrev pub ToldStatesAreEmitted : Type 0
ToldStatesAreEmitted = (table : Table) → TableKeeps table → (initial : List (List ℤ)) (limits : Limits) → Positive limits → (extent : Extent)
    (choices : List Choice) (forms : ℕ → Option RegionForm) → AreChosen table initial limits extent choices forms
    → (place : ℕ) (choice : Choice) → slice_get choices place ≡ Some choice
    → (flow : FlowGraph) (line : ℕ) (explanation : Explanation) → IsExplained flow table limits extent line choice explanation → IsFormTold explanation.schedule (forms choice.region)

-- so do the explanations of all choices, each by the region that is its loop's header
abbrev pub ExplanationsTellForms : Type 0
ExplanationsTellForms = (table : Table) → TableKeeps table → (initial : List (List ℤ)) (limits : Limits) → Positive limits → (extent : Extent)
    (choices : List Choice) (forms : ℕ → Option RegionForm) → AreChosen table initial limits extent choices forms
    → (flow : FlowGraph) (asked : Option ℕ) (explanations : List Explanation) → AreExplained flow table limits extent asked choices explanations
    → AllByRecursion (λ it. IsFormTold it.schedule (forms it.region)) explanations
