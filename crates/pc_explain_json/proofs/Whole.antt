-- The numbers of explanations are whole.
use Rattle.std.proofs.Common.{◌≡◌, refl, ℕ, suc, false, List, [], ◌∷◌, map, Option, Some, None}
use Rattle.std.specs.Prelude.{true, codes, slice_get}
use Rattle.std.specs.List.{AllByRecursion}
use Rattle.pc_word.specs.declared.item.Item.{Item}
use Rattle.pc_word.specs.declared.item.Limits.{Limits}
use Rattle.pc_word.specs.declared.item.Operand.{Operand}
use Rattle.pc_word.specs.declared.item.Operand.TheVariants.{Name}
use Rattle.pc_word.specs.Row.{Row, Then, Either, At_leaf}
use Rattle.pc_window.specs.declared.home.Home.{Home}
use Rattle.pc_automaton.specs.declared.automaton.AutomatonLeaf.{AutomatonLeaf}
use Rattle.pc_automaton.specs.declared.automaton.AutomatonLeaf.TheVariants.{To, Out, Stop, Trap}
use Rattle.pc_told.specs.Tellings.{Telling, Tells_item, Tells_test, Tells_leaf}
use Rattle.pc_waiting.specs.declared.obstacle.Waiting.{Waiting}
use Rattle.pc_object.specs.declared.object.Note.{Note}
use Rattle.pc_report.specs.FaultLine.{trap_text}
use Rattle.serde_json.specs.Data.{Data, boolean}
use Rattle.serde_json.specs.View.{items_of}
use Rattle.serde_json.specs.Written.{has_float, items_have_float}
use Rattle.pc_json.specs.Json.{count_field, field, list_of, limits_json, optional, text_field}
use Rattle.pc_json.proofs.Whole.{items-whole, limits-whole, object-whole, optional-whole}
use Rattle.pc_explain.specs.Explained.{LoopSchedule, Explanation}
use Rattle.pc_explain.specs.EachState.{StateExplanation, each_state, explained_states, naming_of}
use Rattle.pc_explain.specs.Legends.{SourceLegend}
use Rattle.pc_explain.specs.Naming.{Naming}
use Rattle.pc_explain.specs.Waits.{kind_words, obstacle_words}
use Rattle.pc_explain.specs.Words.{item_words, operand_words}
use Rattle.pc_explain_json.specs.CycleJson.{cycle_json}
use Rattle.pc_explain_json.specs.Json.{operand_json, home_json, leaf_json, item_json, test_json, row_json, parameters_json, wait_json, state_json, state_shown}
use Rattle.pc_explain_json.specs.Json.{states_json, cycles_json, noted_form, noted_line, noted_words, loop_json, explanations_json}
use Rattle.pc_explain_json.proofs.CyclesWhole.{cycles-whole}

module _ (naming : Naming) where
  -- ---- leaves

  operands-whole : (operands : List Operand) → items_have_float (items_of (map (operand_json naming) operands)) ≡ false
  operands-whole [] = refl
  operands-whole (operand ∷ rest) = operands-whole rest

  home-whole : (home : Home) → has_float (home_json naming home) ≡ false
  home-whole home =
      object-whole (count_field (codes "variable") home.variable ∷ text_field (codes "value") (operand_words naming home.value) ∷ []) (refl, (refl, tt))

  homes-whole : (homes : List Home) → AllByRecursion (λ value. has_float value ≡ false) (map (home_json naming) homes)
  homes-whole [] = tt
  homes-whole (home ∷ rest) = (home-whole home, homes-whole rest)

  leaf-whole : (leaf : AutomatonLeaf) (advance : Option ℕ) → has_float (leaf_json naming leaf advance) ≡ false
  leaf-whole (To state arguments) advance =
      object-whole
      (count_field (codes "to") state
      ∷ field (codes "arguments") (list_of (map (operand_json naming) arguments))
      ∷ field (codes "from") (optional advance)
      ∷ [])
      (refl, (operands-whole arguments, (optional-whole advance, tt)))
  leaf-whole (Out region homes) advance =
      object-whole (count_field (codes "region") region ∷ field (codes "values") (list_of (map (home_json naming) homes)) ∷ [])
      (refl, (items-whole (map (home_json naming) homes) (homes-whole homes), tt))
  leaf-whole Stop advance = object-whole (field (codes "stop") (boolean true) ∷ []) (refl, tt)
  leaf-whole (Trap kind line) advance =
      object-whole (text_field (codes "trap") (trap_text kind) ∷ count_field (codes "line") line ∷ []) (refl, (refl, tt))

  -- ---- rows

  item-whole : (iteration origin : ℕ) (line : Option ℕ) (item : Item) (next : Data) → has_float next ≡ false
      → has_float (item_json naming iteration origin line item next) ≡ false
  item-whole iteration origin line item next whole =
      object-whole
      (text_field (codes "item") (item_words naming item)
      ∷ count_field (codes "iteration") iteration
      ∷ count_field (codes "origin") origin
      ∷ field (codes "line") (optional line)
      ∷ field (codes "next") next
      ∷ [])
      (refl, (refl, (refl, (optional-whole line, (whole, tt)))))

  test-whole : (iteration origin : ℕ) (line : Option ℕ) (on : Operand) (on_yes on_no : Data) → has_float on_yes ≡ false → has_float on_no ≡ false
      → has_float (test_json naming iteration origin line on on_yes on_no) ≡ false
  test-whole iteration origin line on on_yes on_no whole_yes whole_no =
      object-whole
      (field (codes "test") (operand_json naming on)
      ∷ count_field (codes "iteration") iteration
      ∷ count_field (codes "origin") origin
      ∷ field (codes "line") (optional line)
      ∷ field (codes "yes") on_yes
      ∷ field (codes "no") on_no
      ∷ [])
      (refl, (refl, (refl, (optional-whole line, (whole_yes, (whole_no, tt))))))

  row-whole : (row : Row AutomatonLeaf) (telling : Telling) → has_float (row_json naming row telling) ≡ false
  row-whole (Then item rest) (Tells_item iteration origin what next) =
      item-whole iteration origin (slice_get naming.legend.lines origin) item (row_json naming rest next) (row-whole rest next)
  row-whole (Either on on_yes on_no) (Tells_test iteration origin what one other) =
      test-whole iteration origin (slice_get naming.legend.lines origin) on (row_json naming on_yes one) (row_json naming on_no other)
      (row-whole on_yes one) (row-whole on_no other)
  row-whole (At_leaf leaf) (Tells_leaf advance) = leaf-whole leaf advance
  row-whole (Then item rest) (Tells_test iteration origin what one other) = refl
  row-whole (Then item rest) (Tells_leaf advance) = refl
  row-whole (Either on on_yes on_no) (Tells_item iteration origin what next) = refl
  row-whole (Either on on_yes on_no) (Tells_leaf advance) = refl
  row-whole (At_leaf leaf) (Tells_item iteration origin what next) = refl
  row-whole (At_leaf leaf) (Tells_test iteration origin what one other) = refl

  parameters-whole : (names : List ℕ) → items_have_float (items_of (map (λ name. operand_json naming (Name name)) names)) ≡ false
  parameters-whole [] = refl
  parameters-whole (name ∷ rest) = parameters-whole rest

-- ---- loops

line-whole : (notes : List Note) → has_float (noted_line notes) ≡ false
line-whole [] = refl
line-whole (note ∷ rest) = refl

words-whole : (notes : List Note) → has_float (noted_words notes) ≡ false
words-whole [] = refl
words-whole (note ∷ rest) = refl

module _ (legend : SourceLegend) where
  -- ---- states

  wait-whole : (waiting : Waiting) → has_float (wait_json legend waiting) ≡ false
  wait-whole waiting =
      object-whole
      (count_field (codes "iteration") waiting.iteration
      ∷ count_field (codes "origin") waiting.origin
      ∷ field (codes "line") (optional (slice_get legend.lines waiting.origin))
      ∷ text_field (codes "what") (kind_words legend waiting.what)
      ∷ text_field (codes "why") (obstacle_words legend.lines waiting.obstacle)
      ∷ [])
      (refl, (refl, (optional-whole (slice_get legend.lines waiting.origin), (refl, (refl, tt)))))

  waits-whole : (waits : List Waiting) → AllByRecursion (λ value. has_float value ≡ false) (map (wait_json legend) waits)
  waits-whole [] = tt
  waits-whole (waiting ∷ rest) = (wait-whole waiting, waits-whole rest)

  state-whole : (number : ℕ) (it : StateExplanation) → has_float (state_json legend number it) ≡ false
  state-whole number it =
      let naming = naming_of legend it in
      object-whole
      (count_field (codes "state") number
      ∷ field (codes "parameters") (parameters_json naming it.state.parameters)
      ∷ field (codes "row") (row_json naming it.state.row it.telling)
      ∷ field (codes "waits") (list_of (map (wait_json legend) it.waits))
      ∷ []) (
        refl,
        (
          parameters-whole naming it.state.parameters,
          (row-whole naming it.state.row it.telling, (items-whole (map (wait_json legend) it.waits) (waits-whole it.waits), tt)),
        ),
      )

  states-whole : (number : ℕ) (states : List StateExplanation)
      → AllByRecursion (λ value. has_float value ≡ false) (each_state (state_shown legend) number states)
  states-whole number [] = tt
  states-whole number (it ∷ rest) = (state-whole number it, states-whole (suc number) rest)

  -- ---- schedules

  schedule-whole : (schedule : Option LoopSchedule) → has_float (states_json legend schedule) ≡ false
  schedule-whole None = refl
  schedule-whole (Some schedule) =
      items-whole (each_state (state_shown legend) 0 (explained_states schedule)) (states-whole 0 (explained_states schedule))

  circles-whole : (schedule : Option LoopSchedule) → has_float (cycles_json legend schedule) ≡ false
  circles-whole None = refl
  circles-whole (Some schedule) =
      items-whole (map (cycle_json legend.lines schedule) schedule.cycles) (cycles-whole legend.lines schedule schedule.cycles)

  -- ---- loops

  loop-whole : (it : Explanation) → has_float (loop_json legend it) ≡ false
  loop-whole it =
      object-whole
      (count_field (codes "region") it.region
      ∷ text_field (codes "form") (noted_form it.notes)
      ∷ field (codes "line") (noted_line it.notes)
      ∷ field (codes "note") (noted_words it.notes)
      ∷ field (codes "states") (states_json legend it.schedule)
      ∷ field (codes "cycles") (cycles_json legend it.schedule)
      ∷ [])
      (refl, (refl, (line-whole it.notes, (words-whole it.notes, (schedule-whole it.schedule, (circles-whole it.schedule, tt))))))

  loops-whole : (explanations : List Explanation) → AllByRecursion (λ value. has_float value ≡ false) (map (loop_json legend) explanations)
  loops-whole [] = tt
  loops-whole (it ∷ rest) = (loop-whole it, loops-whole rest)

  pub explanations-whole : (limits : Limits) (asked : Option ℕ) (explanations : List Explanation)
      → has_float (explanations_json limits legend asked explanations) ≡ false
  explanations-whole limits asked explanations =
      object-whole
      (field (codes "asked") (optional asked)
      ∷ field (codes "limits") (limits_json limits)
      ∷ field (codes "loops") (list_of (map (loop_json legend) explanations))
      ∷ [])
      (optional-whole asked, (limits-whole limits, (items-whole (map (loop_json legend) explanations) (loops-whole explanations), tt)))
