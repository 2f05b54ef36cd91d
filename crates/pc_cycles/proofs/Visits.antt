-- The steps of a walk from state to state.
use Rattle.std.proofs.Common.{◌≡◌, ◌≢◌, ℕ, zero, suc, ◌+◌, ◌-◌, ◌≤◌, ◌<◌, inl, inr, Bool, true, false, not, ◌||◌, cond, List, [], ◌∷◌, ◌++◌, length, get_or, refl, sym, ◌∙◌, ap, subst, arith}
use Rattle.std.specs.Prelude.{nat_eq, nat_lt, if◌then◌else◌, Option, Some, None, Result, Ok, Err, OnOk, slice_get, slice_set}
use Rattle.std.specs.List.{AllByRecursion, count_by}
use Rattle.std.proofs.lemmas.Bool.Decides.{nat_tests}
use Rattle.std.proofs.lemmas.Option.{slice_get_within, slice_get-get_or}
use Rattle.pc_word.specs.declared.item.Limits.{Limits}
use Rattle.pc_word.specs.Row.{Row, Then, Either, At_leaf, leaves_of}
use Rattle.pc_word.proofs.Lists.{all_front, all_back, all_both, all_at, count_more, set_length}
use Rattle.pc_word.proofs.Places.{get_front, get_last, set_there, set_elsewhere, same_number}
use Rattle.pc_word.proofs.Truth.{or_false, or_true}
use Rattle.pc_automaton.specs.declared.automaton.AutomatonLeaf.TheVariants.{To}
use Rattle.pc_automaton.specs.Automaton.{AutomatonState, IsAutomaton, IsStateAmong, LeafLeads, Takes}
use Rattle.pc_told.specs.Tellings.{Telling}
use Rattle.pc_waiting.specs.declared.obstacle.Waiting.{Waiting}
use Rattle.pc_cycles.specs.declared.cycle.Cycle.{Cycle}
use Rattle.pc_cycles.specs.declared.path.Path.{Path}
use Rattle.pc_cycles.specs.declared.path.Path.TheVariants.{Start, After'}
use Rattle.pc_cycles.specs.declared.transition.Transition.{Transition}
use Rattle.pc_cycles.specs.Transitions.{leaf_to, next_of}
use Rattle.pc_cycles.specs.Cycles.{IsCycle}
use Rattle.pc_cycles.specs.models.Paths.{is_on, since, path_length, ComesTo, AreFromOthers}
use Rattle.pc_cycles.specs.models.Walking.{IsMet, IsDone, done, IsFollowed, is_closed, is_done, IsAt, IsFound, Finds, Visits, LastIsFollowed, Follows}
use Rattle.pc_cycles.proofs.Ways.{led_by, leaf_within}
use Rattle.pc_cycles.proofs.Done.{still_done, still_followed}
use Rattle.pc_cycles.proofs.Paths.{EndsLike, since_ends}

-- ---- more is found

pub finds_none : (met : List Bool) (cycles : List Cycle) → Finds met met cycles cycles
finds_none met cycles = record { as_many = refl; stay_met = λ state is_met. is_met; fewer_left = omega arith; stay_told = λ at cycle told. told }

pub finds_both : {met mid_met new_met : List Bool} {cycles mid_cycles new_cycles : List Cycle} → Finds met mid_met cycles mid_cycles
    → Finds mid_met new_met mid_cycles new_cycles → Finds met new_met cycles new_cycles
finds_both first second = record {
  as_many = second.as_many ∙ first.as_many;
  stay_met = λ state is_met. second.stay_met state (first.stay_met state is_met);
  fewer_left = let one = first.fewer_left in let other = second.fewer_left in omega (arith, one, other);
  stay_told = λ at cycle told. second.stay_told at cycle (first.stay_told at cycle told);
}

pub finds_cycle : (met : List Bool) (cycles : List Cycle) (cycle : Cycle) → Finds met met cycles (cycles ++ cycle ∷ [])
finds_cycle met cycles cycle = record {
  as_many = refl;
  stay_met = λ state is_met. is_met;
  fewer_left = omega arith;
  stay_told = λ at other told. get_front cycles (cycle ∷ []) at other told;
}

-- ---- a state is met

-- one fewer is left
pub one_fewer : (met : List Bool) (state : ℕ) → slice_get met state ≡ Some false → suc (count_by not (slice_set met state true)) ≡ count_by not met
one_fewer [] state e = absurd (cc)
one_fewer (mark ∷ met) zero e =
    let is : mark ≡ false = (cc) in
    let more = count_more not true met in
    let before = subst (λ (b : Bool). count_by not (mark ∷ met) ≡ cond (not b) 1 0 + count_by not met) is (count_more not mark met) in
    omega (arith, more, before)
one_fewer (mark ∷ met) (suc state) e =
    let more = count_more not mark (slice_set met state true) in
    let before = count_more not mark met in
    let rest = one_fewer met state e in
    omega (arith, more, before, rest)

still_met : (met : List Bool) (state other : ℕ) → state < length met → IsMet met other → IsMet (slice_set met state true) other
still_met met state other there is_met = by (nat_eq state other) refl
  where
    by : (b : Bool) → nat_eq state other ≡ b → IsMet (slice_set met state true) other
    by true e = subst (IsMet (slice_set met state true)) (same_number state other e) (set_there met state true there)
    by false e = let apart : state ≢ other = grind (arith, nat_tests) in set_elsewhere met state other true apart ∙ is_met

pub finds_state : (met : List Bool) (cycles : List Cycle) (state : ℕ) → slice_get met state ≡ Some false → Finds met (slice_set met state true) cycles cycles
finds_state met cycles state first = record {
  as_many = set_length met state true;
  stay_met = λ other is_met. still_met met state other (slice_get_within met state false first) is_met;
  fewer_left = let fewer = one_fewer met state first in omega (arith, fewer);
  stay_told = λ at cycle told. told;
}

-- ---- the leaves of a state

-- what was found after so many leaves of a state
pub record HasFollowed (limits : Limits) (states : List AutomatonState) (tellings : List Telling) (waits : List (List Waiting)) (path : Path) (state leaves : ℕ)
    (old_met met : List Bool) (old_cycles cycles : List Cycle) : Type 0 where
  pub finds : Finds old_met met old_cycles cycles
  pub found : IsFound limits states tellings waits (λ other. nat_eq state other || is_on path other) met cycles
  pub followed : (leaf next : ℕ) → leaf < leaves → next_of states (record { state = state; leaf = leaf }) ≡ Some next
      → IsFollowed states met cycles (record { state = state; leaf = leaf }) next

module _ {limits : Limits} {states : List AutomatonState} {tellings : List Telling} {waits : List (List Waiting)} {path : Path} {state : ℕ} where
  -- before the first leaf
  pub none_followed : {met : List Bool} {cycles : List Cycle} → slice_get met state ≡ Some false → IsFound limits states tellings waits (is_on path) met cycles
      → HasFollowed limits states tellings waits path state 0 (slice_set met state true) (slice_set met state true) cycles cycles
  none_followed {met} {cycles} first found = record {
    finds = finds_none (slice_set met state true) cycles;
    found = record {
      are_cycles = found.are_cycles;
      others_done = λ other is_met is_open.
          let off = or_false (nat_eq state other) (is_on path other) is_open in
          let apart : state ≢ other = let differ = off.0 in grind (arith, nat_tests) in
          let met_before : IsMet met other = sym (set_elsewhere met state other true apart) ∙ is_met in
          still_done (finds_state met cycles state first) (found.others_done other met_before off.1);
    };
    followed = λ leaf next below leads. absurd (omega (arith, below));
  }

  -- a leaf that leads nowhere
  pub passed_leaf : {leaves : ℕ} {old_met met : List Bool} {old_cycles cycles : List Cycle} → HasFollowed limits states tellings waits path state leaves old_met met old_cycles cycles
      → ((next : ℕ) → next_of states (record { state = state; leaf = leaves }) ≡ Some next → ⊥)
      → HasFollowed limits states tellings waits path state (leaves + 1) old_met met old_cycles cycles
  passed_leaf {leaves} {old_met} {met} {old_cycles} {cycles} h none = record {
    finds = h.finds;
    found = h.found;
    followed = λ leaf next below leads. by leaf next (nat_lt leaf leaves) refl below leads;
  }
    where
      by : (leaf next : ℕ) (b : Bool) → nat_lt leaf leaves ≡ b → leaf < leaves + 1 → next_of states (record { state = state; leaf = leaf }) ≡ Some next
          → IsFollowed states met cycles (record { state = state; leaf = leaf }) next
      by leaf next true e below leads = let lt : leaf < leaves = grind (arith, nat_tests) in h.followed leaf next lt leads
      by leaf next false e below leads =
          let ge : leaves ≤ leaf = grind (arith, nat_tests) in
          let same : leaf ≡ leaves = omega (arith, ge, below) in
          absurd (none next (sym (ap (λ (l : ℕ). next_of states (record { state = state; leaf = l })) same) ∙ leads))

  -- a leaf that was followed
  pub followed_leaf : {leaves to : ℕ} {old_met met new_met : List Bool} {old_cycles cycles new_cycles : List Cycle}
      → HasFollowed limits states tellings waits path state leaves old_met met old_cycles cycles
      → next_of states (record { state = state; leaf = leaves }) ≡ Some to
      → Finds met new_met cycles new_cycles → IsFollowed states new_met new_cycles (record { state = state; leaf = leaves }) to
      → IsFound limits states tellings waits (λ other. nat_eq state other || is_on path other) new_met new_cycles
      → HasFollowed limits states tellings waits path state (leaves + 1) old_met new_met old_cycles new_cycles
  followed_leaf {leaves} {to} {old_met} {met} {new_met} {old_cycles} {cycles} {new_cycles} h leads_to finds followed found = record {
    finds = finds_both h.finds finds;
    found = found;
    followed = λ leaf next below leads. by leaf next (nat_lt leaf leaves) refl below leads;
  }
    where
      by : (leaf next : ℕ) (b : Bool) → nat_lt leaf leaves ≡ b → leaf < leaves + 1 → next_of states (record { state = state; leaf = leaf }) ≡ Some next
          → IsFollowed states new_met new_cycles (record { state = state; leaf = leaf }) next
      by leaf next true e below leads = let lt : leaf < leaves = grind (arith, nat_tests) in still_followed finds (h.followed leaf next lt leads)
      by leaf next false e below leads =
          let ge : leaves ≤ leaf = grind (arith, nat_tests) in
          let same : leaf ≡ leaves = omega (arith, ge, below) in
          let here : next_of states (record { state = state; leaf = leaves }) ≡ Some next = sym (ap (λ (l : ℕ). next_of states (record { state = state; leaf = l })) same) ∙ leads in
          let one : to ≡ next = (cc) in
          subst (λ (n : ℕ). IsFollowed states new_met new_cycles (record { state = state; leaf = leaf }) n) one
          (subst (λ (l : ℕ). IsFollowed states new_met new_cycles (record { state = state; leaf = l }) to) (sym same) followed)

  -- after the last leaf the walk is done with the state
  pub all_followed : {leaves : ℕ} {met marked new_met : List Bool} {cycles new_cycles : List Cycle} (here : AutomatonState) → slice_get states state ≡ Some here
      → length (leaves_of here.row) ≤ leaves → slice_get met state ≡ Some false → marked ≡ slice_set met state true
      → HasFollowed limits states tellings waits path state leaves marked new_met cycles new_cycles
      → Visits limits states tellings waits path state met new_met cycles new_cycles
  all_followed {leaves} {met} {marked} {new_met} {cycles} {new_cycles} here there all first marks h = record {
    finds = finds_both (finds_state met cycles state first) from_marked;
    is_met = h.finds.stay_met state (subst (λ (m : List Bool). IsMet m state) (sym marks) (set_there met state true (slice_get_within met state false first)));
    found = record { are_cycles = h.found.are_cycles; others_done = λ other is_met is_open. by other (nat_eq state other) refl is_met is_open };
  }
    where
      from_marked : Finds (slice_set met state true) new_met cycles new_cycles
      from_marked = subst (λ (m : List Bool). Finds m new_met cycles new_cycles) marks h.finds

      state_done : IsDone states new_met new_cycles state
      state_done = done (λ leaf next leads.
          let by = led_by states (record { state = state; leaf = leaf }) next leads in
          let same : by.state ≡ here = let found = sym by.there ∙ there in (cc) in
          let within = leaf_within by.state.row leaf (To next by.arguments) by.leaf in
          let within_here = subst (λ (s : AutomatonState). leaf < length (leaves_of s.row)) same within in
          h.followed leaf next (omega (arith, within_here, all)) leads)

      by : (other : ℕ) (b : Bool) → nat_eq state other ≡ b → IsMet new_met other → is_on path other ≡ false → IsDone states new_met new_cycles other
      by other true e is_met is_open = subst (IsDone states new_met new_cycles) (same_number state other e) state_done
      by other false e is_met is_open = h.found.others_done other is_met (ap (λ (b : Bool). b || is_on path other) e ∙ is_open)

-- ---- the end of a path

-- what holds of each leaf holds of the one with a number
leaf_all : {L : Type 0} (P : L → Type 0) (row : Row L) (number : ℕ) (leaf : L) → AllByRecursion P (leaves_of row) → leaf_to row number ≡ Some leaf → P leaf
leaf_all P (Then item rest) number leaf all e = leaf_all P rest number leaf all e
leaf_all P (Either on on_yes on_no) number leaf all e =
    by (nat_lt number (length (leaves_of on_yes))) e
    (leaf_all P on_yes number leaf (all_front P (leaves_of on_yes) (leaves_of on_no) all))
    (leaf_all P on_no (number - length (leaves_of on_yes)) leaf (all_back P (leaves_of on_yes) (leaves_of on_no) all))
  where
    by : (b : Bool) → (if b then leaf_to on_yes number else leaf_to on_no (number - length (leaves_of on_yes))) ≡ Some leaf
        → (leaf_to on_yes number ≡ Some leaf → P leaf) → (leaf_to on_no (number - length (leaves_of on_yes)) ≡ Some leaf → P leaf) → P leaf
    by true e one other = one e
    by false e one other = other e
leaf_all P (At_leaf here) number leaf all e = by (nat_eq number 0) e
  where
    by : (b : Bool) → (if b then Some here else None) ≡ Some leaf → P leaf
    by true e = let same : here ≡ leaf = (cc) in subst P same all.0
    by false e = absurd (cc)

-- what an automaton's transition leads to is there
pub next_there : (states : List AutomatonState) → IsAutomaton states → (transition : Transition) (next : ℕ) → next_of states transition ≡ Some next → next < length states
next_there states kept transition next leads =
    let by = led_by states transition next leads in
    let among = all_at (IsStateAmong states) states transition.state by.state kept.each by.there in
    let takes = leaf_all (LeafLeads states) by.state.row transition.leaf (To next by.arguments) among.lead by.leaf in
    found (slice_get states next) refl (length by.arguments) takes
  where
    found : (state : Option AutomatonState) → slice_get states next ≡ state → (count : ℕ) → Takes state count → next < length states
    found (Some state) e count takes = slice_get_within states next state e
    found None e count takes = absurd takes

-- a state that was not met is not on the path
pub off_path : (path : Path) (state : ℕ) (met : List Bool) → ((other : ℕ) → is_on path other ≡ true → IsMet met other) → slice_get met state ≡ Some false → is_on path state ≡ false
off_path path state met on_met first = by (is_on path state) refl
  where
    by : (b : Bool) → is_on path state ≡ b → b ≡ false
    by false e = refl
    by true e = let here = on_met state e in absurd (cc)

-- the walk goes on from a state by a leaf
pub at_next : {states : List AutomatonState} {path : Path} {state next : ℕ} {met new_met : List Bool} {cycles new_cycles : List Cycle} → IsAt states path state met
    → slice_get met state ≡ Some false → Finds (slice_set met state true) new_met cycles new_cycles
    → (longer : Path) → ((other : ℕ) → is_on longer other ≡ (nat_eq state other || is_on path other)) → path_length longer ≡ suc (path_length path)
    → ComesTo states longer next → AreFromOthers longer → next < length states → IsAt states longer next new_met
at_next {states} {path} {state} {next} {met} {new_met} at first finds longer on more comes others there = record {
  as_many = finds.as_many ∙ set_length met state true ∙ at.as_many;
  there = there;
  comes = comes;
  others = others;
  on_met = λ other on_longer. elim (or_true (nat_eq state other) (is_on path other) (sym (on other) ∙ on_longer)) [
    | inl here ↦ finds.stay_met other
        (subst (IsMet (slice_set met state true)) (same_number state other here) (set_there met state true (slice_get_within met state false first)))
    | inr before ↦ finds.stay_met other (still_met met state other (slice_get_within met state false first) (at.on_met other before))
  ];
  room =
      let room = at.room in
      let fewer = one_fewer met state first in
      let still = finds.fewer_left in
      omega (arith, room, fewer, still, more);
}

-- ---- what was followed

-- the state that a path leads to is done
last_done : {states : List AutomatonState} {met : List Bool} {cycles : List Cycle} (path : Path) (next : ℕ) → IsDone states met cycles next
    → LastIsFollowed states met cycles path next
last_done Start next next_done = tt
last_done (After' transition p before) next next_done = is_done next_done

-- a path closes a cycle
last_closed : (states : List AutomatonState) (met : List Bool) (cycles : List Cycle) (path : Path) (next at : ℕ) (cycle : Cycle) → slice_get cycles at ≡ Some cycle
    → EndsLike path cycle.transitions → IsMet met next → LastIsFollowed states met cycles path next
last_closed states met cycles Start next at cycle told ends is_met = tt
last_closed states met cycles (After' transition p before) next at cycle told ends is_met =
    is_closed (record { at = at; cycle = cycle; told = told; before = ends.0; last = ends.1 }) is_met

module _ {limits : Limits} {states : List AutomatonState} {tellings : List Telling} {waits : List (List Waiting)} {path : Path} {next : ℕ} where
  -- a state that was met is done, where it is not on the path
  pub follows_met : {met : List Bool} {cycles : List Cycle} → IsFound limits states tellings waits (is_on path) met cycles → IsMet met next → is_on path next ≡ false
      → Follows limits states tellings waits path next met met cycles cycles
  follows_met {met} {cycles} found is_met off = record {
    finds = finds_none met cycles;
    followed = last_done path next (found.others_done next is_met off);
    found = found;
  }

  -- so is one that is visited
  pub follows_visited : {met new_met : List Bool} {cycles new_cycles : List Cycle} → Visits limits states tellings waits path next met new_met cycles new_cycles
      → is_on path next ≡ false → Follows limits states tellings waits path next met new_met cycles new_cycles
  follows_visited visits off = record {
    finds = visits.finds;
    followed = last_done path next (visits.found.others_done next visits.is_met off);
    found = visits.found;
  }

  -- a state on the path closes a cycle
  pub follows_back : {met : List Bool} {cycles new_cycles : List Cycle} (cycle : Cycle) → IsAt states path next met → IsFound limits states tellings waits (is_on path) met cycles
      → is_on path next ≡ true → cycle.transitions ≡ since path next
      → IsCycle limits states tellings waits cycle → new_cycles ≡ cycles ++ cycle ∷ []
      → Follows limits states tellings waits path next met met cycles new_cycles
  follows_back {met} {cycles} {new_cycles} cycle at found on same is more =
      subst (λ (all : List Cycle). Follows limits states tellings waits path next met met cycles all) (sym more) (record {
        finds = finds_cycle met cycles cycle;
        followed = last_closed states met (cycles ++ cycle ∷ []) path next (length cycles) cycle (get_last cycles cycle)
            (subst (EndsLike path) (sym same) (since_ends path next)) (at.on_met next on);
        found = record {
          are_cycles = all_both (IsCycle limits states tellings waits) cycles (cycle ∷ []) found.are_cycles (is, tt);
          others_done = λ other is_met off. still_done (finds_cycle met cycles cycle) (found.others_done other is_met off);
        };
      })

-- what follows from what holds if a call succeeds
pub ok_map : {X E : Type 0} (result : Result X E) {P Q : Type 0} → (P → Q) → OnOk result P → OnOk result Q
ok_map (Ok value) f p = f p
ok_map (Err error) f p = p

-- a mark that is read stands there
pub mark_read : (marks : List Bool) (number : ℕ) (mark : Bool) → number < length marks → get_or marks number false ≡ mark → slice_get marks number ≡ Some mark
mark_read marks number mark below e = slice_get-get_or marks number false below ∙ ap Some e
