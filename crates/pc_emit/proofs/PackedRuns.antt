-- The rows of a packed region show what its automaton shows.
use Rattle.std.proofs.Common.{◌≡◌, ℕ, zero, suc, ◌+◌, ◌<◌, List, [], ◌∷◌, length, Option, Some, None, refl, sym, ◌∙◌, ap, subst, arith}
use Rattle.std.specs.Prelude.{ℤ, slice_get}
use Rattle.std.specs.List.{AllByRecursion}
use Rattle.pc_word.specs.declared.item.Operand.{Operand}
use Rattle.pc_word.specs.declared.item.Limits.{Limits}
use Rattle.pc_word.specs.State.{State}
use Rattle.pc_word.specs.Row.{Row, leaves_of, RowOutcome, row_step}
use Rattle.pc_word.specs.Run.{Seen, Run, Answers, after_printing, seen_of, run_from, NeverFaults}
use Rattle.pc_word.proofs.Lists.{all_front, all_back, all_at}
use Rattle.pc_word.proofs.Runs.{Answers-equal, Answers-after}
use Rattle.pc_table.specs.Table.{Table, Next}
use Rattle.pc_table.specs.RegionRun.{place_at, region_run}
use Rattle.pc_table.specs.TableKeeps.{TableKeeps}
use Rattle.pc_window.specs.declared.home.Home.{Home}
use Rattle.pc_window.specs.Tree.{home_state}
use Rattle.pc_window.proofs.Paces.{answer_of_answer}
use Rattle.pc_automaton.specs.declared.automaton.AutomatonLeaf.{AutomatonLeaf}
use Rattle.pc_automaton.specs.declared.automaton.AutomatonLeaf.TheVariants.{To, Out, Stop, Trap}
use Rattle.pc_automaton.specs.Automaton.{AutomatonState, IsStateAmong, IsAutomaton, Takes, LeafLeads}
use Rattle.pc_automaton.specs.AutomatonRun.{At_state, passed_state, state_parameters, leaf_step, outcome_step, state_step, automaton_step}
use Rattle.pc_machine.specs.declared.tree.Leaf.{Leaf}
use Rattle.pc_machine.specs.declared.tree.Leaf.TheVariants as machine
use Rattle.pc_machine.specs.MachineCode.{CodeRow, RowCode, code_without_data}
use Rattle.pc_machine.specs.MachineRun.{after_row, machine_step}
use Rattle.pc_copies.specs.Moves.{after_rows, AreDone}
use Rattle.pc_emit.specs.Registers.{register_of, argument_moves, home_moves}
use Rattle.pc_assign.specs.Apart.{IsApart}
use Rattle.pc_automaton.proofs.LeftRuns.{left_is_region}
use Rattle.pc_emit.proofs.Undisturbing.{stays_undisturbed}
use Rattle.pc_emit.specs.Emitted.{Emission, RegionForm, form_leaf, LeadsThroughMoves, LeafStands, leads_to_state, leads_to_region, ends_here, traps_here}
use Rattle.pc_emit.specs.Emitted.{RowStands, item_stands, test_stands, leaf_stands, StateStands}
use Rattle.pc_automaton.specs.There.{LeafIsThere, StateIsThere}
use Rattle.pc_assign.specs.Assigned.{Registers}
use Rattle.pc_emit.proofs.Rows.{LeafHolds, OutcomeStands, both_fault, both_commit, Holds, row_does}
use Rattle.pc_emit.proofs.Passed.{state_passed, region_passed}
use Rattle.pc_emit.proofs.Leading.{row_run, leaf_run, leaf_seen, row_seen, passes_forth, passes_back}
use Rattle.pc_table.proofs.Live.{region_same}

-- what holds of each leaf of a row holds beside what relates it
pub with_leaves : {Related : AutomatonLeaf → Leaf → Type 0} {of : ℕ → ℕ} {row : Row AutomatonLeaf} {below : CodeRow} (P : AutomatonLeaf → Type 0)
    → AllByRecursion P (leaves_of row) → RowStands Related of row below → RowStands (λ leaf to. P leaf × Related leaf to) of row below
with_leaves P all (item_stands item h) = item_stands item (with_leaves P all h)
with_leaves P all (test_stands on {on_yes} {on_no} h k) =
    test_stands on (with_leaves P (all_front P (leaves_of on_yes) (leaves_of on_no) all) h) (with_leaves P (all_back P (leaves_of on_yes) (leaves_of on_no) all) k)
with_leaves P all (leaf_stands h) = leaf_stands (all.0, h)

both : (P Q : AutomatonLeaf → Type 0) (leaves : List AutomatonLeaf) → AllByRecursion P leaves → AllByRecursion Q leaves → AllByRecursion (λ leaf. P leaf × Q leaf) leaves
both P Q [] h k = tt
both P Q (leaf ∷ leaves) h k = ((h.0, k.0), both P Q leaves h.1 k.1)

-- what a code does depends on its arrays and rows alone
module _ (e : Emission) (keeps : TableKeeps e.table) (limits : Limits) (rows : List CodeRow) where
  abbrev pub code : RowCode
  code = code_without_data limits e.table.arrays rows

  abbrev pub table : Table
  table = e.table

  -- as many cycles from a region's leaf as this show what the region comes to show
  abbrev pub ForthIn : ℕ → Type 0
  ForthIn n = (region : ℕ) (form : RegionForm) → e.forms region ≡ Some form → (m : State) → NeverFaults (region_run table (Next region) m)
      → (k : ℕ) × Answers (leaf_run code (form_leaf e region form) m n) (region_run table (Next region) m k) (leaf_run code (form_leaf e region form) m n).end

  -- as many units of a region as this show what the code comes to show from its leaf
  abbrev pub BackAt : ℕ → ℕ → Type 0
  BackAt n region = (form : RegionForm) → e.forms region ≡ Some form → (m : State) → NeverFaults (region_run table (Next region) m)
      → (k : ℕ) × Answers (region_run table (Next region) m n) (leaf_run code (form_leaf e region form) m k) (region_run table (Next region) m n).end

  module _ (region : ℕ) (states : List AutomatonState) (registers : Registers) (automaton : IsAutomaton states)
      (apart : (number : ℕ) (state : AutomatonState) → slice_get states number ≡ Some state → IsApart registers.scratch (registers.of number) state)
      (are_there : AllByRecursion (StateIsThere table) states)
      (stand : (number : ℕ) (state : AutomatonState) → slice_get states number ≡ Some state → StateStands e rows region states registers number state) where
    -- the run from a state, and from a leaf
    abbrev pub state_run : ℕ → State → Run
    state_run number s n = run_from (automaton_step table states) n (At_state number s)

    abbrev pub seen_after : List ℤ → State → AutomatonLeaf → Run
    seen_after out s leaf n = seen_of (leaf_step table states out s leaf) (run_from (automaton_step table states) n)

    -- what is so of a leaf and of the leaf that it becomes
    abbrev pub Leads : (of : ℕ → ℕ) → AutomatonLeaf → Leaf → Type 0
    Leads of leaf below = (LeafLeads states leaf × LeafIsThere table leaf) × LeafStands e rows region states registers of leaf below

    -- the machine is at the row of a state, whose parameters have their values
    pub record StandsAt (number : ℕ) (s m : State) : Type 0 where
      pub state : AutomatonState
      pub there : slice_get states number ≡ Some state
      pub holds : Holds (register_of (registers.of number)) state.parameters s m

    -- what one row of each does
    pub both_step : (number : ℕ) (s m : State) (at : StandsAt number s m)
        → (row : CodeRow) × (slice_get rows (e.places.state region number) ≡ Some row)
        × OutcomeStands (Leads (register_of (registers.of number))) (register_of (registers.of number)) (row_step table.arrays at.state.row s) (row_step table.arrays row m)
    both_step number s m at =
        let stands = stand number at.state at.there in
        let among : IsStateAmong states at.state = all_at (IsStateAmong states) states number at.state automaton.each at.there in
        let leaves = both (LeafLeads states) (LeafIsThere table) (leaves_of at.state.row) among.lead (all_at (StateIsThere table) states number at.state are_there at.there).leaves in (
          stands.row,
          stands.there,
          row_does {Related = Leads (register_of (registers.of number))} table.arrays (register_of (registers.of number)) at.state.parameters s m
              (with_leaves (λ leaf. LeafLeads states leaf × LeafIsThere table leaf) leaves stands.stands)
              (stays_undisturbed registers.scratch (registers.of number) at.state (apart number at.state at.there)) among.items among.tests among.leaves at.holds,
        )

    state_goes : (number : ℕ) (s : State) (state : AutomatonState) (n : ℕ) → slice_get states number ≡ Some state
        → state_run number s (suc n) ≡ seen_of (outcome_step table states (row_step table.arrays state.row s)) (run_from (automaton_step table states) n)
    state_goes number s state n there = ap (λ (o : Option AutomatonState). seen_of (state_step table states o s) (run_from (automaton_step table states) n)) there

    -- ---- where a leaf leads

    -- the next state is there, and its parameters have their values after the copies
    pub next_stands : (of : ℕ → ℕ) (s m : State) (number : ℕ) (arguments : List Operand) (leaf : Leaf) → Takes (slice_get states number) (length arguments)
        → LeafHolds of (To number arguments) s m
        → (moves : LeadsThroughMoves e registers.scratch rows leaf
        (argument_moves of (register_of (registers.of number)) (state_parameters (slice_get states number)) arguments) (machine.Goto (e.places.state region number)))
        → StandsAt number (passed_state s (state_parameters (slice_get states number)) arguments) (after_rows table.arrays moves.copies m)
    next_stands of s m number arguments leaf takes holds moves = by_state (slice_get states number) refl takes (moves.arranged.done table.arrays m)
      where
        by_state : (o : Option AutomatonState) → slice_get states number ≡ o → Takes o (length arguments)
            → AreDone (argument_moves of (register_of (registers.of number)) (state_parameters o) arguments) registers.scratch m (after_rows table.arrays moves.copies m)
            → StandsAt number (passed_state s (state_parameters o) arguments) (after_rows table.arrays moves.copies m)
        by_state (Some state) there many done = record {
          state = state;
          there = there;
          holds = state_passed of (register_of (registers.of number)) s m (after_rows table.arrays moves.copies m) registers.scratch number state.parameters arguments many holds done;
        }
        by_state None there many done = absurd many

    -- after the copies a region shows what it shows from the homes
    behind_same : (of : ℕ → ℕ) (s m : State) (to : ℕ) (homes : List Home) (leaf target : Leaf) → LeafIsThere table (Out to homes) → LeafHolds of (Out to homes) s m
        → (moves : LeadsThroughMoves e registers.scratch rows leaf (home_moves of homes) target) → (n : ℕ)
        → region_run table (Next to) (after_rows table.arrays moves.copies m) n ≡ region_run table (Next to) (home_state s homes) n
    behind_same of s m to homes leaf target lives holds moves n =
        region_same table keeps to n (home_state s homes) (after_rows table.arrays moves.copies m)
        (region_passed table of s m (after_rows table.arrays moves.copies m) registers.scratch to homes lives.live holds (moves.arranged.done table.arrays m))

    -- what an automaton shows that leads out
    out_seen : (out : List ℤ) (s : State) (to : ℕ) (homes : List Home) (n : ℕ)
        → seen_after out s (Out to homes) n ≡ after_printing out (region_run table (Next to) (home_state s homes) n)
    out_seen out s to homes n = ap (λ (x : Seen). after_printing out x) (left_is_region table states n (place_at table (Next to) (home_state s homes)))

    -- a run that never faults, after something was printed
    never_after : (out : List ℤ) (X Y : Run) → ((n : ℕ) → X n ≡ after_printing out (Y n)) → NeverFaults X → NeverFaults Y
    never_after out X Y same never n fault is = never n fault (ap (λ (x : Seen). x.end) (same n) ∙ is)

    -- ---- forth: what the code shows from a leaf, the automaton comes to show from the leaf that it stands for

    leaf_forth : (n : ℕ) (of : ℕ → ℕ) (out : List ℤ) (s m : State) (leaf : AutomatonLeaf) (below : Leaf) → Leads of leaf below → LeafHolds of leaf s m
        → NeverFaults (seen_after out s leaf)
        → ((number : ℕ) (t u : State) → StandsAt number t u → NeverFaults (state_run number t)
        → (k : ℕ) × Answers (row_run code (e.places.state region number) u n) (state_run number t k) (row_run code (e.places.state region number) u n).end)
        → ForthIn n
        → (k : ℕ) × Answers (after_printing out (leaf_run code below m n)) (seen_after out s leaf k) (after_printing out (leaf_run code below m n)).end
    leaf_forth n of out s m (To number arguments) below (leads, leads_to_state moves) holds never next regions =
        let t = passed_state s (state_parameters (slice_get states number)) arguments in
        let u = after_rows table.arrays moves.copies m in
        let k = next number t u (next_stands of s m number arguments below leads.0 holds moves) (never_after out (seen_after out s (To number arguments)) (state_run number t) (λ j. refl) never) in (
          k.0,
          Answers-after out (leaf_run code below m n) (state_run number t k.0) (leaf_run code below m n).end
              (answer_of_answer (leaf_run code below m n) (row_run code (e.places.state region number) u n) (state_run number t k.0) (passes_forth code moves.passes m n) k.1),
        )
    leaf_forth n of out s m (Out to homes) below (leads, leads_to_region {target} there moves) holds never next regions =
        let u = after_rows table.arrays moves.copies m in
        let t = home_state s homes in
        let same = behind_same of s m to homes below target leads.1 holds moves in
        let never_there : NeverFaults (region_run table (Next to) u) =
        never_after out (seen_after out s (Out to homes)) (region_run table (Next to) u) (λ j. out_seen out s to homes j ∙ ap (λ (x : Seen). after_printing out x) (sym (same j))) never in
        let k = regions to there.form there.has u never_there in (
          k.0,
          subst (λ (y : Seen). Answers (after_printing out (leaf_run code below m n)) y (after_printing out (leaf_run code below m n)).end)
              (ap (λ (x : Seen). after_printing out x) (same k.0) ∙ sym (out_seen out s to homes k.0))
              (Answers-after out (leaf_run code below m n) (region_run table (Next to) u k.0) (leaf_run code below m n).end
              (answer_of_answer (leaf_run code below m n) (leaf_run code (form_leaf e to there.form) u n) (region_run table (Next to) u k.0)
              (subst (λ (l : Leaf). Answers (leaf_run code below m n) (leaf_run code l u n) (leaf_run code below m n).end) there.is (passes_forth code moves.passes m n)) k.1)),
        )
    leaf_forth n of out s m Stop below (leads, ends_here) holds never next regions =
        (0, Answers-equal (after_printing out (leaf_run code machine.Stop m n)) (seen_after out s Stop 0) (sym (leaf_seen code out m machine.Stop n)))
    leaf_forth n of out s m (Trap kind line) below (leads, traps_here) holds never next regions =
        (0, Answers-equal (after_printing out (leaf_run code (machine.Trap kind line) m n)) (seen_after out s (Trap kind line) 0) (sym (leaf_seen code out m (machine.Trap kind line) n)))

    -- a row of each
    outcome_forth : (n : ℕ) (of : ℕ → ℕ) (a : RowOutcome AutomatonLeaf) (b : RowOutcome Leaf) → OutcomeStands (Leads of) of a b
        → NeverFaults (λ k. seen_of (outcome_step table states a) (run_from (automaton_step table states) k))
        → ((number : ℕ) (t u : State) → StandsAt number t u → NeverFaults (state_run number t)
        → (k : ℕ) × Answers (row_run code (e.places.state region number) u n) (state_run number t k) (row_run code (e.places.state region number) u n).end)
        → ForthIn n
        → (k : ℕ) × Answers (seen_of (after_row b) (run_from (machine_step code) n)) (seen_of (outcome_step table states a) (run_from (automaton_step table states) k))
        (seen_of (after_row b) (run_from (machine_step code) n)).end
    outcome_forth n of a b both_fault never next regions = (0, (refl, refl))
    outcome_forth n of a b (both_commit {printed} {new} {moved} {leaf} {below} leads holds) never next regions =
        let k = leaf_forth n of printed new moved leaf below leads holds never next regions in
        (k.0, subst (λ (x : Seen). Answers x (seen_after printed new leaf k.0) x.end) (sym (leaf_seen code printed moved below n)) k.1)

    -- as many cycles as this, where regions that follow are shown for fewer
    pub state_forth : (n : ℕ) → ((k : ℕ) → k < n → ForthIn k) → (number : ℕ) (s m : State) → StandsAt number s m → NeverFaults (state_run number s)
        → (k : ℕ) × Answers (row_run code (e.places.state region number) m n) (state_run number s k) (row_run code (e.places.state region number) m n).end
    state_forth zero regions number s m at never = (0, ([], refl))
    state_forth (suc n) regions number s m at never =
        let b = both_step number s m at in
        let goes = λ (k : ℕ). state_goes number s at.state k at.there in
        let k = outcome_forth n (register_of (registers.of number)) (row_step table.arrays at.state.row s) (row_step table.arrays b.0 m) b.2
        (λ k fault is. never (suc k) fault (ap (λ (x : Seen). x.end) (goes k) ∙ is))
        (λ number' t u at' never'. state_forth n (λ k less. regions k (omega arith)) number' t u at' never') (regions n (omega arith)) in (
          suc k.0,
          subst (λ (x : Seen). Answers x (state_run number s (suc k.0)) x.end) (sym (row_seen code (e.places.state region number) b.0 m n b.1))
              (subst (λ (y : Seen). Answers (seen_of (after_row (row_step table.arrays b.0 m)) (run_from (machine_step code) n)) y
              (seen_of (after_row (row_step table.arrays b.0 m)) (run_from (machine_step code) n)).end) (sym (goes k.0)) k.1),
        )

    -- ---- back: what the automaton shows, the code comes to show

    leaf_back : (n : ℕ) (of : ℕ → ℕ) (out : List ℤ) (s m : State) (leaf : AutomatonLeaf) (below : Leaf) → Leads of leaf below → LeafHolds of leaf s m
        → NeverFaults (seen_after out s leaf)
        → ((number : ℕ) (t u : State) → StandsAt number t u → NeverFaults (state_run number t)
        → (k : ℕ) × Answers (state_run number t n) (row_run code (e.places.state region number) u k) (state_run number t n).end)
        → ((to : ℕ) → BackAt n to)
        → (k : ℕ) × Answers (seen_after out s leaf n) (after_printing out (leaf_run code below m k)) (seen_after out s leaf n).end
    leaf_back n of out s m (To number arguments) below (leads, leads_to_state moves) holds never next regions =
        let t = passed_state s (state_parameters (slice_get states number)) arguments in
        let u = after_rows table.arrays moves.copies m in
        let k = next number t u (next_stands of s m number arguments below leads.0 holds moves)
        (never_after out (seen_after out s (To number arguments)) (state_run number t) (λ j. refl) never) in (
          length moves.copies + k.0,
          Answers-after out (state_run number t n) (leaf_run code below m (length moves.copies + k.0)) (state_run number t n).end
              (subst (λ (y : Seen). Answers (state_run number t n) y (state_run number t n).end) (sym (passes_back code moves.passes m k.0)) k.1),
        )
    leaf_back n of out s m (Out to homes) below (leads, leads_to_region {target} there moves) holds never next regions =
        let u = after_rows table.arrays moves.copies m in
        let same = behind_same of s m to homes below target leads.1 holds moves in
        let seen : seen_after out s (Out to homes) n ≡ after_printing out (region_run table (Next to) u n) =
        out_seen out s to homes n ∙ ap (λ (x : Seen). after_printing out x) (sym (same n)) in
        let never_there : NeverFaults (region_run table (Next to) u) =
        never_after out (seen_after out s (Out to homes)) (region_run table (Next to) u) (λ j. out_seen out s to homes j ∙ ap (λ (x : Seen). after_printing out x) (sym (same j))) never in
        let k = regions to there.form there.has u never_there in
        let x = region_run table (Next to) u n in (
          length moves.copies + k.0,
          subst (λ (z : Seen). Answers z (after_printing out (leaf_run code below m (length moves.copies + k.0))) z.end) (sym seen)
              (Answers-after out x (leaf_run code below m (length moves.copies + k.0)) x.end
              (subst (λ (y : Seen). Answers x y x.end) (sym (passes_back code moves.passes m k.0 ∙ ap (λ (l : Leaf). leaf_run code l u k.0) there.is)) k.1)),
        )
    leaf_back n of out s m Stop below (leads, ends_here) holds never next regions =
        (0, Answers-equal (seen_after out s Stop n) (after_printing out (leaf_run code machine.Stop m 0)) (leaf_seen code out m machine.Stop 0))
    leaf_back n of out s m (Trap kind line) below (leads, traps_here) holds never next regions =
        (0, Answers-equal (seen_after out s (Trap kind line) n) (after_printing out (leaf_run code (machine.Trap kind line) m 0)) (leaf_seen code out m (machine.Trap kind line) 0))

    outcome_back : (n : ℕ) (of : ℕ → ℕ) (a : RowOutcome AutomatonLeaf) (b : RowOutcome Leaf) → OutcomeStands (Leads of) of a b
        → NeverFaults (λ k. seen_of (outcome_step table states a) (run_from (automaton_step table states) k))
        → ((number : ℕ) (t u : State) → StandsAt number t u → NeverFaults (state_run number t)
        → (k : ℕ) × Answers (state_run number t n) (row_run code (e.places.state region number) u k) (state_run number t n).end)
        → ((to : ℕ) → BackAt n to)
        → (k : ℕ) × Answers (seen_of (outcome_step table states a) (run_from (automaton_step table states) n)) (seen_of (after_row b) (run_from (machine_step code) k))
        (seen_of (outcome_step table states a) (run_from (automaton_step table states) n)).end
    outcome_back n of a b both_fault never next regions = (0, (refl, refl))
    outcome_back n of a b (both_commit {printed} {new} {moved} {leaf} {below} leads holds) never next regions =
        let k = leaf_back n of printed new moved leaf below leads holds never next regions in
        (k.0, subst (λ (y : Seen). Answers (seen_after printed new leaf n) y (seen_after printed new leaf n).end) (sym (leaf_seen code printed moved below k.0)) k.1)

    -- as many rows as this, where regions that follow are shown for fewer units
    pub state_back : (n : ℕ) → ((k : ℕ) → k < n → (to : ℕ) → BackAt k to) → (number : ℕ) (s m : State) → StandsAt number s m → NeverFaults (state_run number s)
        → (k : ℕ) × Answers (state_run number s n) (row_run code (e.places.state region number) m k) (state_run number s n).end
    state_back zero regions number s m at never = (0, ([], refl))
    state_back (suc n) regions number s m at never =
        let b = both_step number s m at in
        let a = row_step table.arrays at.state.row s in
        let goes = λ (k : ℕ). state_goes number s at.state k at.there in
        let k = outcome_back n (register_of (registers.of number)) a (row_step table.arrays b.0 m) b.2
        (λ k fault is. never (suc k) fault (ap (λ (x : Seen). x.end) (goes k) ∙ is))
        (λ number' t u at' never'. state_back n (λ k less to. regions k (omega arith) to) number' t u at' never') (λ to. regions n (omega arith) to) in (
          suc k.0,
          subst (λ (x : Seen). Answers x (row_run code (e.places.state region number) m (suc k.0)) x.end) (sym (goes n))
              (subst (λ (y : Seen). Answers (seen_of (outcome_step table states a) (run_from (automaton_step table states) n)) y
              (seen_of (outcome_step table states a) (run_from (automaton_step table states) n)).end)
              (sym (row_seen code (e.places.state region number) b.0 m k.0 b.1)) k.1),
        )
