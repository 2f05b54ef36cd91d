-- A table has one answer: two lists of choices with their forms that are those of one table, in the same limits, are the same.
use Rattle.std.proofs.Common.{◌≡◌, ℕ, ◌<◌, ◌≤◌, ◌⊎◌, inl, inr, true, List, [], ◌∷◌, ◌++◌, length, Option, Some, None, refl, sym, ◌∙◌, ap, subst, arith}
use Rattle.std.specs.Prelude.{ℤ, slice_get}
use Rattle.std.proofs.lemmas.Option.{slice_get_past, slice_get_within}
use Rattle.pc_word.specs.declared.item.Extent.{Extent}
use Rattle.pc_word.specs.declared.item.Limits.{Limits}
use Rattle.pc_word.specs.MachineLimits.{most_rows, most_object}
use Rattle.pc_word.proofs.Places.{length_more}
use Rattle.pc_word.proofs.Truth.{decide_le}
use Rattle.pc_table.specs.Table.{Table, region_tree}
use Rattle.pc_table.specs.TableKeeps.{TableKeeps}
use Rattle.pc_window.specs.Steps.{Positive}
use Rattle.pc_automaton.specs.Automaton.{AutomatonState}
use Rattle.pc_assign.specs.Assigned.{Registers, IsAssigned}
use Rattle.pc_assign.specs.Pressure.{most_scratch, pressure_of, IsFirstHigh, LowBefore}
use Rattle.pc_assign.proofs.Unique.{only_one}
use Rattle.pc_pattern.specs.Pattern.{IsFound}
use Rattle.pc_pattern.specs.Searches.{Rules}
use Rattle.pc_pattern.proofs.Determinism.{one_answer}
use Rattle.pc_pattern.proofs.OneStates.{patterns_one}
use Rattle.pc_emit.specs.Emitted.{RegionForm, ByAutomaton}
use Rattle.pc_emit.specs.Leading.{form_leads}
use Rattle.pc_compile.specs.declared.choice.Cause.{Cause}
use Rattle.pc_compile.specs.declared.choice.Cause.TheVariants.{Live, Bytes}
use Rattle.pc_compile.specs.declared.choice.Choice.{Choice}
use Rattle.pc_compile.specs.declared.choice.Form.{Form}
use Rattle.pc_compile.specs.declared.choice.Form.TheVariants as form
use Rattle.pc_compile.specs.Choosing.{with_region_form, bytes_with, pipelines, packs, HasRegisters, IsFormRefused, Many_rows, High_pressure, Many_bytes, may_pipeline}
use Rattle.pc_compile.specs.Choosing.{PassesOver, Is_not_tried, Is_refused, Gets, Gets_pipelined, Gets_packed, Gets_plain}
use Rattle.pc_compile.specs.Choosing.{with_regions, choice_of, Choosing, Begins, Takes, AreChosen}
use Rattle.pc_compile.specs.Laws.{ATableHasOneAnswer}

-- ---- pressure

module _ (states : List AutomatonState) where
  -- a state of too high a pressure is not low
  high_low : (number live at : ℕ) → IsFirstHigh states number live → LowBefore most_scratch states at → number < at → ⊥
  high_low number live at high low less =
      let is = high.is_live in
      let too_high = high.high in
      let fits = low number high.state less high.there in
      omega (arith, is, too_high, fits)

  -- the first one that is too high has one pressure
  high_one : (number live number' live' : ℕ) → IsFirstHigh states number live → IsFirstHigh states number' live' → live ≡ live'
  high_one number live number' live' one other = by_order (decide_le number number') (decide_le number' number)
    where
      same_state : (a b : AutomatonState) → Some a ≡ Some b → a ≡ b
      same_state a b e = cc

      at_one : number ≡ number' → live ≡ live'
      at_one same =
          let state = same_state one.state other.state (sym one.there ∙ ap (slice_get states) same ∙ other.there) in
          one.is_live ∙ ap pressure_of state ∙ sym other.is_live

      by_order : (number ≤ number') ⊎ (number' < number) → (number' ≤ number) ⊎ (number < number') → live ≡ live'
      by_order (inl up) (inl down) = at_one (omega (arith, up, down))
      by_order (inl up) (inr less) = absurd (high_low number live number' one other.before less)
      by_order (inr less) down = absurd (high_low number' live' number other one.before less)

-- ---- one search

module _ (rules : Rules) (keeps : TableKeeps rules.table) (room : Positive rules.limits) (region rows : ℕ) where
  states_same : (states others : List AutomatonState) → IsFound rules region rows states → IsFound rules region rows others → states ≡ others
  states_same states others one other = patterns_one rules keeps room region rows rows states others one.pattern other.pattern

  -- it has one form
  form_same : (states others : List AutomatonState) (registers registers' : Registers) → HasRegisters rules region rows states registers
      → HasRegisters rules region rows others registers' → ByAutomaton states registers ≡ ByAutomaton others registers'
  form_same states others registers registers' one other =
      let same = states_same states others one.found other.found in
      let given = only_one states registers registers' one.assigned (subst (λ (s : List AutomatonState). IsAssigned s registers') (sym same) other.assigned) in
      λ i. ByAutomaton (same i) (given i)

  -- where states are found that are low, none has too high a pressure
  not_high : (states others : List AutomatonState) (number live : ℕ) → IsFound rules region rows states → IsFirstHigh states number live
      → IsFound rules region rows others → LowBefore most_scratch others (length others) → ⊥
  not_high states others number live one high other low =
      let same = states_same states others one other in
      high_low states number live (length states) high (subst (λ (s : List AutomatonState). LowBefore most_scratch s (length s)) (sym same) low)
      (slice_get_within states number high.state high.there)

  module _ (bytes : RegionForm → ℕ) where
    -- it is given or refused, and not both
    not_refused : (states : List AutomatonState) (registers : Registers) (cause : Cause) → HasRegisters rules region rows states registers
        → bytes (ByAutomaton states registers) ≤ most_object → IsFormRefused rules region rows bytes cause → ⊥
    not_refused states registers cause has short (Many_rows none) = one_answer rules region rows states has.found.pattern none
    not_refused states registers cause has short (High_pressure {states = others} {number} {live} found high) =
        not_high others states number live found high has.found has.low
    not_refused states registers cause has short (Many_bytes {states = others} {registers = registers'} other many) =
        let same = ap bytes (form_same states others registers registers' has other) in
        omega (arith, same, short, many)

    -- it is refused for one cause
    cause_one : (cause other : Cause) → IsFormRefused rules region rows bytes cause → IsFormRefused rules region rows bytes other → cause ≡ other
    cause_one cause other (Many_rows none) (Many_rows none') = refl
    cause_one cause other (Many_rows none) (High_pressure {states} found high) = absurd (one_answer rules region rows states found.pattern none)
    cause_one cause other (Many_rows none) (Many_bytes {states} has many) = absurd (one_answer rules region rows states has.found.pattern none)
    cause_one cause other (High_pressure {states} found high) (Many_rows none) = absurd (one_answer rules region rows states found.pattern none)
    cause_one cause other (High_pressure {states} {number} {live} found high) (High_pressure {states = states'} {number = number'} {live = live'} found' high') =
        ap (λ (n : ℕ). Live n most_scratch)
        (high_one states number live number' live' high
        (subst (λ (s : List AutomatonState). IsFirstHigh s number' live') (sym (states_same states states' found found')) high'))
    cause_one cause other (High_pressure {states} {number} {live} found high) (Many_bytes {states = states'} has many) =
        absurd (not_high states states' number live found high has.found has.low)
    cause_one cause other (Many_bytes {states} has many) (Many_rows none) = absurd (one_answer rules region rows states has.found.pattern none)
    cause_one cause other (Many_bytes {states} has many) (High_pressure {states = states'} {number} {live} found high) =
        absurd (not_high states' states number live found high has.found has.low)
    cause_one cause other (Many_bytes {states} {registers} has many) (Many_bytes {states = states'} {registers = registers'} has' many') =
        ap (λ (it : RegionForm). Bytes (bytes it) most_object) (form_same states states' registers registers' has has')

-- ---- one region

module _ (table : Table) (keeps : TableKeeps table) (initial : List (List ℤ)) (limits : Limits) (room : Positive limits) (extent : Extent) where
  module _ (region : ℕ) (bytes : RegionForm → ℕ) where
    passes_one : (causes others : List Cause) → PassesOver table limits extent region bytes causes → PassesOver table limits extent region bytes others → causes ≡ others
    passes_one causes others (Is_not_tried no_one) (Is_not_tried no_other) = refl
    passes_one causes others (Is_not_tried no_one) (Is_refused may refused) = absurd (cc)
    passes_one causes others (Is_refused may refused) (Is_not_tried no_one) = absurd (cc)
    passes_one causes others (Is_refused {cause} may refused) (Is_refused {cause = other} may' refused') =
        ap (λ (c : Cause). c ∷ []) (cause_one (pipelines table limits extent) keeps room region extent.rows bytes cause other refused refused')

    -- what is pipelined was not passed over
    not_passed : (states : List AutomatonState) (registers : Registers) (causes : List Cause) → may_pipeline table extent region ≡ true
        → HasRegisters (pipelines table limits extent) region extent.rows states registers → bytes (ByAutomaton states registers) ≤ most_object
        → PassesOver table limits extent region bytes causes → ⊥
    not_passed states registers causes may has short (Is_not_tried no_one) = absurd (cc)
    not_passed states registers causes may has short (Is_refused {cause} may' refused) =
        not_refused (pipelines table limits extent) keeps room region extent.rows bytes states registers cause has short refused

    -- what a region gets
    record SameForm (chosen other : RegionForm) (kind kind' : Form) (causes causes' : List Cause) : Type 0 where
      same_form : chosen ≡ other
      same_kind : kind ≡ kind'
      same_causes : causes ≡ causes'

    gets_one : (chosen other : RegionForm) (kind kind' : Form) (causes causes' : List Cause) → Gets table limits extent region bytes chosen kind causes
        → Gets table limits extent region bytes other kind' causes' → SameForm chosen other kind kind' causes causes'
    gets_one chosen other kind kind' causes causes' (Gets_pipelined {states} {registers} may has short) (Gets_pipelined {states = states'} {registers = registers'} may' has' short') =
        record {
          same_form = form_same (pipelines table limits extent) keeps room region extent.rows states states' registers registers' has has';
          same_kind = ap (λ (s : List AutomatonState). form.Pipelined (length s) extent.rows)
              (states_same (pipelines table limits extent) keeps room region extent.rows states states' has.found has'.found);
          same_causes = refl;
        }
    gets_one chosen other kind kind' causes causes' (Gets_pipelined {states} {registers} may has short) (Gets_packed {causes = why} passed has' short') =
        absurd (not_passed states registers why may has short passed)
    gets_one chosen other kind kind' causes causes' (Gets_pipelined {states} {registers} may has short) (Gets_plain {causes = why} passed refused) =
        absurd (not_passed states registers why may has short passed)
    gets_one chosen other kind kind' causes causes' (Gets_packed {causes = why} passed has' short') (Gets_pipelined {states} {registers} may has short) =
        absurd (not_passed states registers why may has short passed)
    gets_one chosen other kind kind' causes causes' (Gets_packed {states} {registers} {causes = why} passed has short)
        (Gets_packed {states = states'} {registers = registers'} {causes = why'} passed' has' short') =
        record {
          same_form = form_same (packs table limits) keeps room region most_rows states states' registers registers' has has';
          same_kind = refl;
          same_causes = passes_one why why' passed passed';
        }
    gets_one chosen other kind kind' causes causes' (Gets_packed {states} {registers} passed has short) (Gets_plain {cause} passed' refused) =
        absurd (not_refused (packs table limits) keeps room region most_rows bytes states registers cause has short refused)
    gets_one chosen other kind kind' causes causes' (Gets_plain {causes = why} passed refused) (Gets_pipelined {states} {registers} may has short) =
        absurd (not_passed states registers why may has short passed)
    gets_one chosen other kind kind' causes causes' (Gets_plain {cause} passed refused) (Gets_packed {states} {registers} passed' has short) =
        absurd (not_refused (packs table limits) keeps room region most_rows bytes states registers cause has short refused)
    gets_one chosen other kind kind' causes causes' (Gets_plain {causes = why} {cause} passed refused) (Gets_plain {causes = why'} {cause = cause'} passed' refused') =
        let first = passes_one why why' passed passed' in
        let last = cause_one (packs table limits) keeps room region most_rows bytes cause cause' refused refused' in
        record { same_form = refl; same_kind = refl; same_causes = λ i. first i ++ (last i ∷ []) }

  -- ---- all regions

  -- what was found, chosen and given, twice
  record SameChoosing (found found' : List ℕ) (choices choices' : List Choice) (forms forms' : ℕ → Option RegionForm) : Type 0 where
    same_found : found ≡ found'
    same_choices : choices ≡ choices'
    same_forms : forms ≡ forms'

  takes_one : (found found' : List ℕ) (choices choices' : List Choice) (forms forms' : ℕ → Option RegionForm) (region region' : ℕ) (chosen chosen' : RegionForm)
      (kind kind' : Form) (causes causes' : List Cause) → SameChoosing found found' choices choices' forms forms'
      → slice_get found (length choices) ≡ Some region → slice_get found' (length choices') ≡ Some region'
      → Gets table limits extent region (bytes_with table initial forms region) chosen kind causes
      → Gets table limits extent region' (bytes_with table initial forms' region') chosen' kind' causes'
      → SameChoosing (with_regions found (form_leads (region_tree table region) chosen)) (with_regions found' (form_leads (region_tree table region') chosen'))
      (choices ++ (choice_of region kind causes ∷ [])) (choices' ++ (choice_of region' kind' causes' ∷ []))
      (with_region_form forms region chosen) (with_region_form forms' region' chosen')
  takes_one found found' choices choices' forms forms' region region' chosen chosen' kind kind' causes causes' same next next' gets gets' =
      let place = same_number region region'
      (sym next ∙ (λ i. slice_get (same.same_found i) (length (same.same_choices i))) ∙ next') in
      let counts : bytes_with table initial forms region ≡ bytes_with table initial forms' region' = λ i. bytes_with table initial (same.same_forms i) (place i) in
      let got = gets_one region (bytes_with table initial forms region) chosen chosen' kind kind' causes causes' gets
      (subst (λ (b : RegionForm → ℕ). Gets table limits extent region b chosen' kind' causes') (sym counts)
      (subst (λ (r : ℕ). Gets table limits extent r (bytes_with table initial forms' region') chosen' kind' causes') (sym place) gets')) in
      record {
        same_found = λ i. with_regions (same.same_found i) (form_leads (region_tree table (place i)) (got.same_form i));
        same_choices = λ i. same.same_choices i ++ (choice_of (place i) (got.same_kind i) (got.same_causes i) ∷ []);
        same_forms = λ i. with_region_form (same.same_forms i) (place i) (got.same_form i);
      }
    where
      same_number : (a b : ℕ) → Some a ≡ Some b → a ≡ b
      same_number a b e = cc

  -- after as many choices all is the same
  choosing_one : (found found' : List ℕ) (choices choices' : List Choice) (forms forms' : ℕ → Option RegionForm) → Choosing table initial limits extent found choices forms
      → Choosing table initial limits extent found' choices' forms' → length choices ≡ length choices' → SameChoosing found found' choices choices' forms forms'
  choosing_one found found' choices choices' forms forms' Begins Begins many = record { same_found = refl; same_choices = refl; same_forms = refl }
  choosing_one found found' choices choices' forms forms' Begins (Takes {choices = earlier} {region} {kind} {causes} choosing next gets) many =
      let more = length_more earlier (choice_of region kind causes) in absurd (omega (arith, more, many))
  choosing_one found found' choices choices' forms forms' (Takes {choices = earlier} {region} {kind} {causes} choosing next gets) Begins many =
      let more = length_more earlier (choice_of region kind causes) in absurd (omega (arith, more, many))
  choosing_one found found' choices choices' forms forms'
      (Takes {found = before} {choices = earlier} {forms = had} {region} {chosen} {kind} {causes} choosing next gets)
      (Takes {found = before'} {choices = earlier'} {forms = had'} {region = region'} {chosen = chosen'} {kind = kind'} {causes = causes'} choosing' next' gets') many =
      let more = length_more earlier (choice_of region kind causes) in
      let more' = length_more earlier' (choice_of region' kind' causes') in
      takes_one before before' earlier earlier' had had' region region' chosen chosen' kind kind' causes causes'
      (choosing_one before before' earlier earlier' had had' choosing choosing' (omega (arith, more, more', many))) next next' gets gets'

  -- no more is chosen than where each region that was found was taken
  chosen_most : (choices : List Choice) (forms : ℕ → Option RegionForm) → (one : AreChosen table initial limits extent choices forms)
      → (found : List ℕ) (others : List Choice) (had : ℕ → Option RegionForm) → Choosing table initial limits extent found others had → length others ≤ length choices
  chosen_most choices forms one found others had Begins = omega arith
  chosen_most choices forms one found others had (Takes {found = before} {choices = earlier} {forms = given} {region} {kind} {causes} choosing next gets) =
      by_order (chosen_most choices forms one before earlier given choosing) (decide_le (length choices) (length earlier))
    where
      by_order : length earlier ≤ length choices → (length choices ≤ length earlier) ⊎ (length earlier < length choices)
          → length (earlier ++ (choice_of region kind causes ∷ [])) ≤ length choices
      by_order few (inr less) = let more = length_more earlier (choice_of region kind causes) in omega (arith, more, less)
      by_order few (inl most) =
          let many : length choices ≡ length earlier = omega (arith, few, most) in
          let same = choosing_one one.found before choices earlier forms given one.choosing choosing many in
          let all = one.all in
          let past : slice_get one.found (length earlier) ≡ None = slice_get_past one.found (length earlier) (omega (arith, many, all)) in
          let there : None ≡ Some region = sym past ∙ ap (λ (list : List ℕ). slice_get list (length earlier)) same.same_found ∙ next in
          absurd (cc)

  one_of_all : (choices others : List Choice) (forms forms' : ℕ → Option RegionForm) → AreChosen table initial limits extent choices forms
      → AreChosen table initial limits extent others forms' → (choices ≡ others) × ((region : ℕ) → forms region ≡ forms' region)
  one_of_all choices others forms forms' one other =
      let up = chosen_most choices forms one other.found others forms' other.choosing in
      let down = chosen_most others forms' other one.found choices forms one.choosing in
      let same = choosing_one one.found other.found choices others forms forms' one.choosing other.choosing (omega (arith, up, down)) in
      (same.same_choices, λ region. ap (λ (f : ℕ → Option RegionForm). f region) same.same_forms)

pub one_answer_of_a_table : ATableHasOneAnswer
one_answer_of_a_table table keeps initial limits room extent choices others forms forms' one other =
    one_of_all table keeps initial limits room extent choices others forms forms' one other
