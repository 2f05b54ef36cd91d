-- The states of a schedule beside what is explained of each, one after the other.
use Rattle.std.proofs.Common.{◌≡◌, refl, ℕ, zero, suc, ◌+◌, List, [], ◌∷◌, ◌++◌, length, drop, Some, ◌∙◌, ap, arith}
use Rattle.std.specs.Prelude.{slice_get}
use Rattle.std.proofs.lemmas.Grind.{flat_map-append}
use Rattle.pc_word.specs.declared.item.Limits.{Limits}
use Rattle.pc_word.specs.Line.{line}
use Rattle.pc_word.proofs.Lists.{all_at}
use Rattle.pc_word.proofs.Places.{drop_at}
use Rattle.pc_automaton.specs.Automaton.{AutomatonState}
use Rattle.pc_automaton.specs.RowFits.{RowFits}
use Rattle.pc_told.specs.Tellings.{Telling}
use Rattle.pc_variables.specs.declared.holding.Holding.{Holding}
use Rattle.pc_waiting.specs.declared.obstacle.Waiting.{Waiting}
use Rattle.pc_view.specs.Listing.{lines_text}
use Rattle.pc_explain.specs.EachState.{StateExplanation, beside, explained_states, each_state}
use Rattle.pc_explain.specs.Explained.{LoopSchedule, HasEach, ScheduleCanBeWritten}

-- ---- what stands beside one another

-- there are as many as states, where there are as many of each
beside_length : (states : List AutomatonState) (tellings : List Telling) (waits : List (List Waiting)) (held : List (List Holding))
    → length tellings ≡ length states → length waits ≡ length states → length held ≡ length states → length (beside states tellings waits held) ≡ length states
beside_length [] tellings waits held one two three = refl
beside_length (state ∷ states) [] waits held one two three = absurd (omega (arith, one))
beside_length (state ∷ states) (telling ∷ tellings) [] held one two three = absurd (omega (arith, two))
beside_length (state ∷ states) (telling ∷ tellings) (first ∷ waits) [] one two three = absurd (omega (arith, three))
beside_length (state ∷ states) (telling ∷ tellings) (first ∷ waits) (holdings ∷ held) one two three =
    ap suc (beside_length states tellings waits held (omega (arith, one)) (omega (arith, two)) (omega (arith, three)))

-- what stands at a place is what stands there in each of the lists
beside_at : (states : List AutomatonState) (tellings : List Telling) (waits : List (List Waiting)) (held : List (List Holding)) (at : ℕ)
    (state : AutomatonState) (telling : Telling) (waiting : List Waiting) (holdings : List Holding) → slice_get states at ≡ Some state
    → slice_get tellings at ≡ Some telling → slice_get waits at ≡ Some waiting → slice_get held at ≡ Some holdings
    → slice_get (beside states tellings waits held) at ≡ Some (record { state = state; telling = telling; waits = waiting; holdings = holdings })
beside_at [] tellings waits held at state telling waiting holdings one two three four = absurd (cc)
beside_at (top ∷ states) [] waits held at state telling waiting holdings one two three four = absurd (cc)
beside_at (top ∷ states) (row ∷ tellings) [] held at state telling waiting holdings one two three four = absurd (cc)
beside_at (top ∷ states) (row ∷ tellings) (first ∷ waits) [] at state telling waiting holdings one two three four = absurd (cc)
beside_at (top ∷ states) (row ∷ tellings) (first ∷ waits) (names ∷ held) zero state telling waiting holdings one two three four = cc
beside_at (top ∷ states) (row ∷ tellings) (first ∷ waits) (names ∷ held) (suc at) state telling waiting holdings one two three four =
    beside_at states tellings waits held at state telling waiting holdings one two three four

-- the state that is explained at a place is the one there
beside_state : (states : List AutomatonState) (tellings : List Telling) (waits : List (List Waiting)) (held : List (List Holding)) (at : ℕ)
    (it : StateExplanation) → slice_get (beside states tellings waits held) at ≡ Some it → slice_get states at ≡ Some it.state
beside_state [] tellings waits held at it here = absurd (cc)
beside_state (top ∷ states) [] waits held at it here = absurd (cc)
beside_state (top ∷ states) (row ∷ tellings) [] held at it here = absurd (cc)
beside_state (top ∷ states) (row ∷ tellings) (first ∷ waits) [] at it here = absurd (cc)
beside_state (top ∷ states) (row ∷ tellings) (first ∷ waits) (names ∷ held) zero it here =
    let same : record { state = top; telling = row; waits = first; holdings = names } ≡ it = (cc) in
    ap (λ (one : StateExplanation). Some one.state) same
beside_state (top ∷ states) (row ∷ tellings) (first ∷ waits) (names ∷ held) (suc at) it here = beside_state states tellings waits held at it here

-- ---- of a schedule

-- as many states are explained as there are
pub explained_length : (schedule : LoopSchedule) → HasEach schedule → length (explained_states schedule) ≡ length schedule.states
explained_length schedule has =
    beside_length schedule.states schedule.tellings schedule.waits schedule.holdings has.as_many has.as_many_wait has.as_many_hold

-- each of them by its parts
pub explained_at : (schedule : LoopSchedule) (at : ℕ) (state : AutomatonState) (telling : Telling) (waits : List Waiting) (holdings : List Holding)
    → slice_get schedule.states at ≡ Some state → slice_get schedule.tellings at ≡ Some telling → slice_get schedule.waits at ≡ Some waits
    → slice_get schedule.holdings at ≡ Some holdings
    → slice_get (explained_states schedule) at ≡ Some (record { state = state; telling = telling; waits = waits; holdings = holdings })
explained_at schedule at state telling waits holdings one two three four =
    beside_at schedule.states schedule.tellings schedule.waits schedule.holdings at state telling waits holdings one two three four

-- where a schedule can be written, the row of each is within limits
pub explained_fits : (limits : Limits) (schedule : LoopSchedule) → ScheduleCanBeWritten limits schedule → (at : ℕ) (it : StateExplanation)
    → slice_get (explained_states schedule) at ≡ Some it → RowFits limits it.state.row
explained_fits limits schedule can at it here =
    all_at (λ (state : AutomatonState). RowFits limits state.row) schedule.states at it.state can.fits
    (beside_state schedule.states schedule.tellings schedule.waits schedule.holdings at it here)

-- ---- shown one after the other

module _ {A : Type 0} (shown : ℕ → StateExplanation → List A) (all : List StateExplanation) where
  -- what is shown of the states from a place on
  abbrev pub shown_from : ℕ → List A
  shown_from at = each_state shown at (drop at all)

  -- it begins with what is shown of the state there
  pub shown_at : (at : ℕ) (it : StateExplanation) → slice_get all at ≡ Some it → shown_from at ≡ shown at it ++ shown_from (at + 1)
  shown_at at it here =
      let one : suc at ≡ at + 1 = omega arith in
      ap (each_state shown at) (drop_at all at it here) ∙ ap (λ (n : ℕ). shown at it ++ each_state shown n (drop n all)) one

-- so it is of lines as a text
pub lines_at : (shown : ℕ → StateExplanation → List (List ℕ)) (all : List StateExplanation) (at : ℕ) (it : StateExplanation) → slice_get all at ≡ Some it
    → lines_text (shown_from shown all at) ≡ lines_text (shown at it) ++ lines_text (shown_from shown all (at + 1))
lines_at shown all at it here =
    ap lines_text (shown_at shown all at it here) ∙ flat_map-append line (shown at it) (shown_from shown all (at + 1))
