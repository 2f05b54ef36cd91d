-- What a walk is done with.
use Rattle.std.proofs.Common.{◌≡◌, ℕ, zero, suc, ◌≤◌, Bool, List, [], ◌∷◌, length, drop, Some, refl, sym, ◌∙◌, ap, subst, arith}
use Rattle.std.specs.Prelude.{slice_get}
use Rattle.pc_automaton.specs.Automaton.{AutomatonState}
use Rattle.pc_cycles.specs.declared.cycle.Cycle.{Cycle}
use Rattle.pc_cycles.specs.declared.transition.Transition.{Transition}
use Rattle.pc_cycles.specs.Transitions.{next_of, Leads, by_none, by_first}
use Rattle.pc_cycles.specs.Cycles.{Closes, SomeCloses, NoneIsPassedOver}
use Rattle.pc_cycles.specs.models.Walking.{IsMet, IsDone, done, IsFollowed, is_closed, is_done, Finds}

-- ---- more is found

pub closes_still : {old new : List Cycle} {transition : Transition} → ((at : ℕ) (cycle : Cycle) → slice_get old at ≡ Some cycle → slice_get new at ≡ Some cycle)
    → Closes old transition → Closes new transition
closes_still stay closes = record {
  at = closes.at;
  cycle = closes.cycle;
  told = stay closes.at closes.cycle closes.told;
  before = closes.before;
  last = closes.last;
}

mutual
  -- the walk stays done with what it is done with
  pub still_done : {states : List AutomatonState} {met new_met : List Bool} {cycles new_cycles : List Cycle} {state : ℕ} → Finds met new_met cycles new_cycles
      → IsDone states met cycles state → IsDone states new_met new_cycles state
  still_done finds (done each) = done (λ leaf next leads. still_followed finds (each leaf next leads))

  pub still_followed : {states : List AutomatonState} {met new_met : List Bool} {cycles new_cycles : List Cycle} {transition : Transition} {next : ℕ}
      → Finds met new_met cycles new_cycles → IsFollowed states met cycles transition next → IsFollowed states new_met new_cycles transition next
  still_followed finds (is_closed {transition} {next} closes met) = is_closed (closes_still finds.stay_told closes) (finds.stay_met next met)
  still_followed finds (is_done further) = is_done (still_done finds further)

-- ---- at the end

module _ (states : List AutomatonState) (met : List Bool) (cycles : List Cycle) (around : List Transition) (start : ℕ)
    (some : 1 ≤ length around) (closed : Leads states start around start) where
  -- what is left of the way round leads on from a state
  record IsOn (state : ℕ) : Type 0 where
    at : ℕ
    left : Leads states state (drop at around) start

  -- a transition of it is from a state, and what is left after it leads on from the next one
  record GoesOn (state : ℕ) : Type 0 where
    at : ℕ
    leaf : ℕ
    next : ℕ
    there : slice_get around at ≡ Some (record { state = state; leaf = leaf })
    leads : next_of states (record { state = state; leaf = leaf }) ≡ Some next
    on : IsOn next

  first_left : (way : List Transition) (at : ℕ) (first : Transition) (others : List Transition) → drop at way ≡ first ∷ others
      → (slice_get way at ≡ Some first) × (drop (suc at) way ≡ others)
  first_left [] zero first others e = absurd (cc)
  first_left [] (suc at) first others e = absurd (cc)
  first_left (x ∷ way) zero first others e = (cc, cc)
  first_left (x ∷ way) (suc at) first others e = first_left way at first others e

  goes_by : {state to : ℕ} {left : List Transition} (at : ℕ) → Leads states state left to → to ≡ start → drop at around ≡ left → 1 ≤ length left → GoesOn state
  goes_by at by_none same rest left_some = absurd (omega (arith, left_some))
  goes_by at (by_first {from} {next} {to} {first} {others} is leads further) same rest left_some =
      let found = first_left around at first others rest in
      let transition : first ≡ record { state = from; leaf = first.leaf } = ap (λ (s : ℕ). record { state = s; leaf = first.leaf }) is in
      record {
        at = at;
        leaf = first.leaf;
        next = next;
        there = found.0 ∙ ap (λ (t : Transition). Some t) transition;
        leads = sym (ap (next_of states) transition) ∙ leads;
        on = record { at = suc at; left = subst (λ (way : List Transition). Leads states next way start) (sym found.1) (subst (Leads states next others) same further) };
      }

  nothing_left : {state to : ℕ} {left : List Transition} → Leads states state left to → left ≡ [] → state ≡ to
  nothing_left by_none none = refl
  nothing_left (by_first is leads further) none = absurd (cc)

  -- where nothing is left, the way begins again
  goes_on : (state : ℕ) → IsOn state → GoesOn state
  goes_on state on = by (drop on.at around) refl on.left
    where
      by : (left : List Transition) → drop on.at around ≡ left → Leads states state left start → GoesOn state
      by (first ∷ others) rest leads = goes_by on.at leads refl rest (omega arith)
      by [] rest leads = subst (λ (s : ℕ). GoesOn s) (sym (nothing_left leads refl)) (goes_by 0 closed refl refl some)

  mutual
    -- who goes round where the walk is done comes to the last transition of a cycle
    round : {state : ℕ} → IsDone states met cycles state → IsOn state → SomeCloses cycles around
    round (done {state} each) on = let step = goes_on state on in followed (each step.leaf step.next step.leads) step.at step.there step.on

    followed : {transition : Transition} {next : ℕ} → IsFollowed states met cycles transition next → (at : ℕ) → slice_get around at ≡ Some transition → IsOn next
        → SomeCloses cycles around
    followed (is_closed {transition} {next} closes met) at there on = record { at = at; transition = transition; there = there; closes = closes }
    followed (is_done further) at there on = round further on

-- where the walk is done with what it met, it is with all that is led to
way_done : {states : List AutomatonState} {met : List Bool} {cycles : List Cycle} → ((state : ℕ) → IsMet met state → IsDone states met cycles state)
    → {from to : ℕ} {way : List Transition} → Leads states from way to → IsDone states met cycles from → IsDone states met cycles to
way_done all by_none from_done = from_done
way_done {states} {met} {cycles} all (by_first {from} {next} {to} {first} {others} is leads further) from_done =
    way_done all further (next_done from_done)
  where
    of_followed : {transition : Transition} → IsFollowed states met cycles transition next → IsDone states met cycles next
    of_followed (is_closed closes next_met) = all next next_met
    of_followed (is_done next_done) = next_done

    transition : first ≡ record { state = from; leaf = first.leaf }
    transition = ap (λ (s : ℕ). record { state = s; leaf = first.leaf }) is

    next_done : IsDone states met cycles from → IsDone states met cycles next
    next_done (done each) = of_followed (each first.leaf next (sym (ap (next_of states) transition) ∙ leads))

-- a walk that is done passes over no cycle
pub none_passed_over : (states : List AutomatonState) (met : List Bool) (cycles : List Cycle) → ((state : ℕ) → IsMet met state → IsDone states met cycles state)
    → IsDone states met cycles 0 → NoneIsPassedOver states cycles
none_passed_over states met cycles all first_done at way around leads closed some =
    round states met cycles around at some closed (way_done all leads first_done) (record { at = 0; left = closed })
