-- Where the members of a search are closed, the run of its automaton and the run of the region agree.
use Rattle.std.proofs.Common.{◌≡◌, ℕ, zero, suc, List, [], ◌∷◌, ◌++◌, refl, sym, ◌∙◌, ap, subst, append-nil, arith}
use Rattle.std.specs.Prelude.{ℤ, false, Option, Some, None, slice_get}
use Rattle.std.specs.List.{AllByRecursion}
use Rattle.pc_word.specs.declared.item.TrapKind.{TrapKind}
use Rattle.pc_word.specs.declared.item.Operand.{Operand}
use Rattle.pc_word.specs.declared.item.End.{End}
use Rattle.pc_word.specs.declared.item.End.TheVariants.{Ended, Trapped}
use Rattle.pc_word.specs.Run.{Seen, Run, Answers, Follows, Agree, after_printing, seen_of, run_from, ended_run, NeverFaults}
use Rattle.pc_word.proofs.Runs.{Answers-equal, Answers-after, Agree-equal, run_from-answers}
use Rattle.pc_word.specs.State.{State}
use Rattle.pc_word.specs.Row.{Row, RowOutcome, Commits, row_step}
use Rattle.pc_table.specs.Table.{Next}
use Rattle.pc_table.specs.TableKeeps.{TableKeeps}
use Rattle.pc_table.specs.RegionRun.{place_at, region_run}
use Rattle.pc_window.specs.declared.home.Home.{Home}
use Rattle.pc_window.specs.Tree.{Tree, Pending, Undecided, Exit, Stop_exit, Trap_exit, whole, home_state}
use Rattle.pc_window.specs.Names.{uses, parameters_of}
use Rattle.pc_window.specs.WindowRun.{Window, enter, window_step, tree_run, window_run, FormsHold}
use Rattle.pc_window.specs.Kept.{Left, Gone, Finished, Trapped_at, left_run, KeepsPace, GainsUnit, RestKept, OutKept, LeftKept, TakenKept, RowKeeps, IsBare, IsRooted}
use Rattle.pc_window.specs.Steps.{LeftIs, EachLeft, IsProper}
use Rattle.pc_window.proofs.Paces.{answer_of_answer, Agree-ends_at_once}
use Rattle.pc_window.proofs.Units.{beyond_is_region}
use Rattle.pc_window.proofs.Proper.{fills_proper, cuts_proper}
use Rattle.pc_window.proofs.FilledRows.{filled_rows_keep}
use Rattle.pc_automaton.specs.declared.automaton.AutomatonLeaf.{AutomatonLeaf}
use Rattle.pc_automaton.specs.declared.automaton.AutomatonLeaf.TheVariants.{To, Out, Stop, Trap}
use Rattle.pc_automaton.specs.Automaton.{AutomatonState, names_written}
use Rattle.pc_automaton.specs.AutomatonRun.{In_region, At_state, passed_state, state_parameters, leaf_step, outcome_step, state_step, automaton_step}
use Rattle.pc_canon.specs.Pairs.{Pair, ones, others, operands_for, ArgumentsAlike, Correspond}
use Rattle.pc_pattern.specs.NamedRow.{RowsNamed, named_item, named_test, named_leaf, LeavesAlike}
use Rattle.pc_pattern.specs.Searches.{Rules, RowFor, bare_leaf, LeafFor, to_member, to_bare, to_region, to_end, to_trap, StateFor, Automates}
use Rattle.pc_pattern.proofs.NamedRows.{WritesOnce, OutcomesNamed, both_fault, both_commit, named_rows_do}
use Rattle.pc_pattern.proofs.WritesOnce.{cut_once, each_once, distinct_back}
use Rattle.pc_canon.specs.Canonical.{parameter_pairs}
use Rattle.pc_canon.proofs.Alike.{home_states_alike}
use Rattle.pc_canon.proofs.ShiftRuns.{shifted_runs}
use Rattle.pc_canon.proofs.ShiftForms.{shifted_forms}
use Rattle.pc_pattern.proofs.Passing.{state_corresponds, states_same, themselves_same}
use Rattle.pc_automaton.proofs.LeftRuns.{left_is_region}
use Rattle.pc_pattern.proofs.Keeping.{brings_on_keeps, rest_kept_on, never_left}
use Rattle.pc_pattern.proofs.Shifts.{shifted_items, parameter_sides}

-- ---- rows and their leaves

pub same_leaf : (a b : AutomatonLeaf) → Some a ≡ Some b → a ≡ b
same_leaf a b e = cc

-- what holds of each leaf of a row holds beside what relates the leaves of two
matches_with : {M : Type 0} {R : List Pair → Left → M → Type 0} {names : List Pair} {row : Row Left} {other : Row M} (P : Window → Type 0)
    → EachLeft P row → RowsNamed R names row other → RowsNamed (λ ns left m. LeftIs P left × R ns left m) names row other
matches_with P each (named_item name h) = named_item name (matches_with P each h)
matches_with P each (named_test h k) = named_test (matches_with P each.0 h) (matches_with P each.1 k)
matches_with P each (named_leaf h) = named_leaf (each, h)

-- the row of a window that has its root keeps the window's run, forms and pace, and leaves proper windows
rows_keep : (rules : Rules) (w : Window) (row : Row Left) → IsRooted w.front → RowFor rules w row → IsProper w
    → EachLeft IsProper row × RowKeeps rules.table w row
rows_keep rules w row rooted h p = (
  cuts_proper rules.table h.filled row h.cuts (fills_proper w h.filled h.fills p),
  filled_rows_keep rules.table w h.filled row rooted h.fills h.cuts p,
)

-- a cut row writes each name once on a path
row_once : (rules : Rules) (w : Window) (row : Row Left) (h : RowFor rules w row) → IsProper w → WritesOnce (uses (whole h.filled.front)) row
row_once rules w row h p =
    subst (λ (r : Row Left). WritesOnce (uses (whole h.filled.front)) r) (sym h.cuts)
    (cut_once rules.table h.filled h.filled.front (uses (whole h.filled.front)) (fills_proper w h.filled h.fills p).window.scoped)

-- and so does the row of its state
none_known : (xs : List ℕ) → AllByRecursion (λ x. false ≡ false) xs
none_known [] = tt
none_known (x ∷ xs) = (refl, none_known xs)

state_once : (rules : Rules) (members : List Window) (w : Window) (state : AutomatonState) → StateFor rules members w state
    → WritesOnce (λ x. false) state.row
state_once rules members w state h =
    each_once (λ x. false) state.row (none_known (names_written state.row)) (distinct_back state.parameters (names_written state.row) h.once)

-- what is left to do in a window with an item or a test
not_bare : (tree : Tree) → bare_leaf tree ≡ None → IsBare tree → ⊥
not_bare (Pending tag origin item rest) none bare = bare
not_bare (Undecided tag origin on on_yes on_no) none bare = bare
not_bare (Exit region tag homes) none bare = absurd (cc)
not_bare Stop_exit none bare = absurd (cc)
not_bare (Trap_exit kind line) none bare = absurd (cc)

-- ---- leaves

module _ (rules : Rules) (keeps : TableKeeps rules.table) (members : List Window) (states : List AutomatonState) where
  -- the run after a leaf
  abbrev after_leaf : List ℤ → State → AutomatonLeaf → Run
  after_leaf out new leaf n = seen_of (leaf_step rules.table states out new leaf) (run_from (automaton_step rules.table states) n)

  -- a run that follows the window's, is not behind it, and is a unit ahead where the window has an item or test
  record Along (w : Window) (s : State) (X : Run) : Type 0 where
    forth : Follows X (window_run rules.table w s)
    pace : KeepsPace (window_run rules.table w s) X
    gains : (IsBare (whole w.front) → ⊥) → GainsUnit (window_run rules.table w s) X

  -- where a leaf leads: to a member that has an item or test and is ahead by a unit, or along the window's run
  data Goes_on (w : Window) (s : State) (out : List ℤ) (new : State) : AutomatonLeaf → Type 0 where
    ahead : {number : ℕ} {arguments : List Operand} (member : Window) → slice_get members number ≡ Some member → (IsBare (whole member.front) → ⊥)
        → RestKept rules.table w s out (passed_state new (state_parameters (slice_get states number)) arguments) member
        → Goes_on w s out new (To number arguments)
    along : {leaf : AutomatonLeaf} → Along w s (after_leaf out new leaf) → Goes_on w s out new leaf

  -- a window's run shows no less with a unit more
  window_grows : (w : Window) (s : State) (n : ℕ) → Answers (window_run rules.table w s n) (window_run rules.table w s (suc n)) (window_run rules.table w s n).end
  window_grows w s n = run_from-answers (window_step rules.table) n (suc n) (enter rules.table (whole w.front) s) (omega arith)

  -- a run that is equal to what follows where no window is left goes along
  along_out : (w : Window) (s : State) (out : List ℤ) (new : State) (left : Left) (X : Run) → OutKept rules.table w s out new left
      → ((n : ℕ) → X n ≡ after_printing out (left_run rules.table left new n)) → Along w s X
  along_out w s out new left X kept same = record {
    forth = λ n. (let m = kept.back n in (m.0, subst (λ (x : Seen). Answers x (window_run rules.table w s m.0) x.end) (sym (same n)) m.1));
    pace = λ n. subst (λ (y : Seen). Answers (window_run rules.table w s n) y (window_run rules.table w s n).end) (sym (same n)) (kept.pace n);
    gains = λ items n. subst (λ (y : Seen). Answers (window_run rules.table w s (suc n)) y (window_run rules.table w s (suc n)).end) (sym (same n)) (kept.gains items n);
  }

  -- what comes before the next state, from another state and window with the same run
  rest_from : (w v u : Window) (s t r : State) (out : List ℤ) → ((n : ℕ) → window_run rules.table v t n ≡ window_run rules.table u r n)
      → (FormsHold rules.table v t → FormsHold rules.table u r) → RestKept rules.table w s out t v → RestKept rules.table w s out r u
  rest_from w v u s t r out runs forms k =
      let same : (n : ℕ) → after_printing out (window_run rules.table v t n) ≡ after_printing out (window_run rules.table u r n) =
      λ n. ap (λ (x : Seen). after_printing out x) (runs n) in
      record {
        pace = λ n. subst (λ (y : Seen). Answers (window_run rules.table w s (suc n)) y (window_run rules.table w s (suc n)).end) (same n) (k.pace n);
        back = λ n. (let m = k.back n in (m.0, subst (λ (y : Seen). Answers y (window_run rules.table w s m.0) y.end) (same n) m.1));
        forms = forms k.forms;
      }

  -- the run after a leaf that leaves for a region
  region_after : (out : List ℤ) (new : State) (region : ℕ) (homes : List Home) (n : ℕ)
      → after_leaf out new (Out region homes) n ≡ after_printing out (region_run rules.table (Next region) (home_state new homes) n)
  region_after out new region homes n =
      ap (λ (x : Seen). after_printing out x) (left_is_region rules.table states n (place_at rules.table (Next region) (home_state new homes)))

  region_agrees : (out : List ℤ) (new : State) (region tag : ℕ) (homes : List Home)
      → Agree (after_leaf out new (Out region homes)) (λ n. after_printing out (tree_run rules.table (Exit region tag homes) new n))
  region_agrees out new region tag homes =
      Agree-equal (after_leaf out new (Out region homes)) (λ n. after_printing out (tree_run rules.table (Exit region tag homes) new n))
      (λ n. region_after out new region homes n
      ∙ ap (λ (x : Seen). after_printing out x) (sym (beyond_is_region rules.table n (place_at rules.table (Next region) (home_state new homes)))))

  -- the end, or a trap, after what was printed
  abbrev shown_with : Option End → List ℤ → Seen
  shown_with end l = record { printed = l; end = end }

  end_agrees : (out : List ℤ) (new : State) → Agree (after_leaf out new Stop) (λ n. after_printing out (tree_run rules.table Stop_exit new n))
  end_agrees out new = Agree-ends_at_once out Ended (after_leaf out new Stop) (λ n. after_printing out (tree_run rules.table Stop_exit new n))
      (λ n. refl)
      (ap (shown_with None) (append-nil out)) (λ n. ap (shown_with (Some Ended)) (append-nil out))

  trap_agrees : (out : List ℤ) (new : State) (kind : TrapKind) (line : ℕ)
      → Agree (after_leaf out new (Trap kind line)) (λ n. after_printing out (tree_run rules.table (Trap_exit kind line) new n))
  trap_agrees out new kind line =
      Agree-ends_at_once out (Trapped kind line) (after_leaf out new (Trap kind line))
      (λ n. after_printing out (tree_run rules.table (Trap_exit kind line) new n)) (λ n. refl)
      (ap (shown_with None) (append-nil out)) (λ n. ap (shown_with (Some (Trapped kind line))) (append-nil out))

  -- a leaf that a bare window is does what the window does
  bare_agrees : (tree : Tree) (leaf : AutomatonLeaf) (out : List ℤ) (new : State) → bare_leaf tree ≡ Some leaf
      → Agree (after_leaf out new leaf) (λ n. after_printing out (tree_run rules.table tree new n))
  bare_agrees (Exit region tag homes) leaf out new e =
      subst (λ (l : AutomatonLeaf). Agree (after_leaf out new l) (λ n. after_printing out (tree_run rules.table (Exit region tag homes) new n)))
      (same_leaf (Out region homes) leaf e) (region_agrees out new region tag homes)
  bare_agrees Stop_exit leaf out new e =
      subst (λ (l : AutomatonLeaf). Agree (after_leaf out new l) (λ n. after_printing out (tree_run rules.table Stop_exit new n)))
      (same_leaf Stop leaf e) (end_agrees out new)
  bare_agrees (Trap_exit kind line) leaf out new e =
      subst (λ (l : AutomatonLeaf). Agree (after_leaf out new l) (λ n. after_printing out (tree_run rules.table (Trap_exit kind line) new n)))
      (same_leaf (Trap kind line) leaf e) (trap_agrees out new kind line)
  bare_agrees (Pending tag origin item rest) leaf out new e = absurd (cc)
  bare_agrees (Undecided tag origin on on_yes on_no) leaf out new e = absurd (cc)

  -- and is not behind it
  bare_pace : (tree : Tree) (leaf : AutomatonLeaf) (out : List ℤ) (new : State) → bare_leaf tree ≡ Some leaf
      → KeepsPace (λ n. after_printing out (tree_run rules.table tree new n)) (after_leaf out new leaf)
  bare_pace (Exit region tag homes) leaf out new e =
      subst (λ (l : AutomatonLeaf). KeepsPace (λ n. after_printing out (tree_run rules.table (Exit region tag homes) new n)) (after_leaf out new l))
      (same_leaf (Out region homes) leaf e)
      (λ n. Answers-equal (after_printing out (tree_run rules.table (Exit region tag homes) new n)) (after_leaf out new (Out region homes) n)
      (ap (λ (x : Seen). after_printing out x) (beyond_is_region rules.table n (place_at rules.table (Next region) (home_state new homes)))
      ∙ sym (region_after out new region homes n)))
  bare_pace Stop_exit leaf out new e =
      subst (λ (l : AutomatonLeaf). KeepsPace (λ n. after_printing out (tree_run rules.table Stop_exit new n)) (after_leaf out new l)) (same_leaf Stop leaf e) paced
    where
      paced : KeepsPace (λ n. after_printing out (tree_run rules.table Stop_exit new n)) (after_leaf out new Stop)
      paced zero = ([], append-nil (out ++ []) ∙ append-nil out)
      paced (suc n) = (sym (append-nil out), refl)
  bare_pace (Trap_exit kind line) leaf out new e =
      subst (λ (l : AutomatonLeaf). KeepsPace (λ n. after_printing out (tree_run rules.table (Trap_exit kind line) new n)) (after_leaf out new l))
      (same_leaf (Trap kind line) leaf e) paced
    where
      paced : KeepsPace (λ n. after_printing out (tree_run rules.table (Trap_exit kind line) new n)) (after_leaf out new (Trap kind line))
      paced zero = ([], append-nil (out ++ []) ∙ append-nil out)
      paced (suc n) = (sym (append-nil out), refl)
  bare_pace (Pending tag origin item rest) leaf out new e = absurd (cc)
  bare_pace (Undecided tag origin on on_yes on_no) leaf out new e = absurd (cc)

  -- a leaf that a bare window is, which is left, goes along
  along_bare : (w brought : Window) (s : State) (out : List ℤ) (new : State) (leaf : AutomatonLeaf) (X : Run) → RestKept rules.table w s out new brought
      → bare_leaf (whole brought.front) ≡ Some leaf → ((n : ℕ) → X n ≡ after_leaf out new leaf n) → Along w s X
  along_bare w brought s out new leaf X k bare same =
      let gains : GainsUnit (window_run rules.table w s) X =
      λ n. subst (λ (y : Seen). Answers (window_run rules.table w s (suc n)) y (window_run rules.table w s (suc n)).end) (sym (same n))
      (answer_of_answer (window_run rules.table w s (suc n)) (after_printing out (window_run rules.table brought new n)) (after_leaf out new leaf n)
      (k.pace n) (bare_pace (whole brought.front) leaf out new bare n)) in
      record {
        forth = λ n. (let m = (bare_agrees (whole brought.front) leaf out new bare).forth n in let j = k.back m.0 in (
          j.0,
          subst (λ (x : Seen). Answers x (window_run rules.table w s j.0) x.end) (sym (same n))
              (answer_of_answer (after_leaf out new leaf n) (after_printing out (window_run rules.table brought new m.0)) (window_run rules.table w s j.0) m.1 j.1),
        ));
        pace = λ n. answer_of_answer (window_run rules.table w s n) (window_run rules.table w s (suc n)) (X n) (window_grows w s n) (gains n);
        gains = λ items. gains;
      }

  -- an end that is left at once
  ended_same : (out : List ℤ) (e : End) (n : ℕ) → shown_with (Some e) out ≡ after_printing out (ended_run [] e n)
  ended_same out e n = ap (shown_with (Some e)) (sym (append-nil out))

  -- leaves that are alike lead on alike
  leaf_same : (names : List Pair) (leaf other : AutomatonLeaf) (out : List ℤ) (new new' : State) → Correspond names new new'
      → LeavesAlike names leaf other
      → (n : ℕ) → after_leaf out new' other n ≡ after_leaf out new leaf n
  leaf_same names (To number one) (To number' other) out new new' c h n =
      let same = states_same names new new' c (state_parameters (slice_get states number)) one other h.1 in
      ap (λ (k : ℕ). after_leaf out new' (To k other) n) (sym h.0)
      ∙ ap (λ (u : State). after_printing out (run_from (automaton_step rules.table states) n (At_state number u))) (sym same)
  leaf_same names (Out region homes) (Out region' homes') out new new' c h n =
      ap (λ (k : ℕ). after_leaf out new' (Out k homes') n) (sym h.0)
      ∙ ap (λ (u : State). after_printing out (run_from (automaton_step rules.table states) n (In_region (place_at rules.table (Next region) u))))
      (sym (home_states_alike names new new' homes homes' c h.1))
  leaf_same names Stop Stop out new new' c h n = refl
  leaf_same names (Trap kind line) (Trap kind' line') out new new' c h n = λ i. after_leaf out new' (Trap (sym h.0 i) (sym h.1 i)) n
  leaf_same names (To number one) (Out region homes) out new new' c h n = absurd h
  leaf_same names (To number one) Stop out new new' c h n = absurd h
  leaf_same names (To number one) (Trap kind line) out new new' c h n = absurd h
  leaf_same names (Out region homes) (To number one) out new new' c h n = absurd h
  leaf_same names (Out region homes) Stop out new new' c h n = absurd h
  leaf_same names (Out region homes) (Trap kind line) out new new' c h n = absurd h
  leaf_same names Stop (To number one) out new new' c h n = absurd h
  leaf_same names Stop (Out region homes) out new new' c h n = absurd h
  leaf_same names Stop (Trap kind line) out new new' c h n = absurd h
  leaf_same names (Trap kind line) (To number one) out new new' c h n = absurd h
  leaf_same names (Trap kind line) (Out region homes) out new new' c h n = absurd h
  leaf_same names (Trap kind line) Stop out new new' c h n = absurd h

  -- a leaf that passes the values of some names to a member that goes on from there
  leads_ahead : (names : List Pair) (member w : Window) (number : ℕ) (s new new' : State) (out : List ℤ) (parameters : List ℕ)
      (given arguments : List Operand)
      → Correspond names new new' → state_parameters (slice_get states number) ≡ parameters → slice_get members number ≡ Some member
      → ArgumentsAlike names given arguments → (IsBare (whole member.front) → ⊥) → RestKept rules.table w s out (passed_state new parameters given) member
      → Goes_on w s out new' (To number arguments)
  leads_ahead names member w number s new new' out parameters given arguments c same at alike items k =
      ahead member at items
      (subst (λ (ps : List ℕ). RestKept rules.table w s out (passed_state new' ps arguments) member) (sym same)
      (subst (λ (u : State). RestKept rules.table w s out u member) (states_same names new new' c parameters given arguments alike) k))

  -- where each leaf goes on
  goes : {left : Left} {leaf : AutomatonLeaf} (names : List Pair) → Automates rules members states
      → (w : Window) (s : State) (out : List ℤ) (new new' : State)
      → Correspond names new new' → NeverFaults (window_run rules.table w s) → LeftKept rules.table w s out new left → LeftIs IsProper left
      → LeafFor rules members names left leaf → Goes_on w s out new' leaf
  goes names auto w s out new new' c never kept proper (to_member {rest} {number} {arguments} brought member brings items at shifted given) =
      let k = rest_kept_on rules.table w rest brought s new out kept never (brings_on_keeps rules keeps rest brought brings proper).1 in
      let e = auto.each number member at in
      let pairs = parameter_pairs brought member in
      let side = parameter_sides brought member (pairs, shifted) in
      let t = passed_state new (others pairs) (operands_for (ones pairs)) in
      let d = state_corresponds new pairs in
      leads_ahead names member w number s new new' out (others pairs) (operands_for (ones pairs)) arguments c
      (ap (λ (o : Option AutomatonState). state_parameters o) e.1 ∙ e.2.parameters ∙ sym side.1) at
      (subst (λ (l : List ℕ). ArgumentsAlike names (operands_for l) arguments) (sym side.0) given)
      (shifted_items pairs brought member shifted (not_bare (whole brought.front) items))
      (rest_from w brought member s new t out (shifted_runs rules.table pairs brought member new t shifted d)
      (shifted_forms rules.table pairs brought member new t shifted d) k)
  goes names auto w s out new new' c never kept proper (to_bare {rest} {other} brought leaf brings bare alike) =
      let k = rest_kept_on rules.table w rest brought s new out kept never (brings_on_keeps rules keeps rest brought brings proper).1 in
      along (along_bare w brought s out new leaf (after_leaf out new' other) k bare (leaf_same names leaf other out new new' c alike))
  goes names auto w s out new new' c never kept proper (to_region {region} {homes} {homes'} alike) =
      along (along_out w s out new (Gone region homes) (after_leaf out new' (Out region homes')) kept
      (λ n. leaf_same names (Out region homes) (Out region homes') out new new' c (refl, alike) n ∙ region_after out new region homes n))
  goes names auto w s out new new' c never kept proper to_end =
      along (along_out w s out new Finished (after_leaf out new' Stop) kept (ended_same out Ended))
  goes names auto w s out new new' c never kept proper (to_trap {kind} {line}) =
      along (along_out w s out new (Trapped_at kind line) (after_leaf out new' (Trap kind line)) kept (ended_same out (Trapped kind line)))

  -- ---- both directions

  module _ (auto : Automates rules members states) (rooted : (number : ℕ) (w : Window) → slice_get members number ≡ Some w → IsRooted w.front)
      (proper : (number : ℕ) (w : Window) → slice_get members number ≡ Some w → IsProper w) where
    -- the run from a state
    abbrev run_at : ℕ → State → Run
    run_at number s n = run_from (automaton_step rules.table states) n (At_state number s)

    -- a state with these values stands for a member with these values: forms hold, and the member's run never faults
    record Stands (number : ℕ) (w : Window) (s : State) : Type 0 where
      at : slice_get members number ≡ Some w
      forms : FormsHold rules.table w s
      never : NeverFaults (window_run rules.table w s)

    -- whatever comes of the row of a state, the window's run goes on alike
    data Row_goes (w : Window) (s : State) : RowOutcome AutomatonLeaf → Type 0 where
      commits : {out : List ℤ} {new : State} {leaf : AutomatonLeaf} → Goes_on w s out new leaf → Row_goes w s (Commits out new leaf)

    taken_goes : {a : RowOutcome Left} {b : RowOutcome AutomatonLeaf} (w : Window) (s : State) → NeverFaults (window_run rules.table w s)
        → TakenKept rules.table w s a → OutcomesNamed (λ names left leaf. LeftIs IsProper left × LeafFor rules members names left leaf) a b
        → Row_goes w s b
    taken_goes w s never kept both_fault = absurd kept
    taken_goes w s never kept (both_commit {printed} {new} {new'} names c leads) =
        commits (goes names auto w s printed new new' c never kept leads.0 leads.1)

    -- the run from a state is the run after its row
    row_goes : (number : ℕ) (w : Window) (s : State) → Stands number w s
        → (b : RowOutcome AutomatonLeaf) × Row_goes w s b
        × ((n : ℕ) → run_at number s (suc n) ≡ seen_of (outcome_step rules.table states b) (run_from (automaton_step rules.table states) n))
    row_goes number w s stands =
        let e = auto.each number w stands.at in
        let f = e.2 in
        let p = proper number w stands.at in
        let row = rows_keep rules w f.cut (rooted number w stands.at) f.row_for p in
        let do_same = named_rows_do rules.table.arrays s (uses (whole f.row_for.filled.front)) (λ x. false) (matches_with IsProper row.0 f.matches)
        (row_once rules w f.cut f.row_for p) (state_once rules members w e.0 f)
        (λ x y h. ap (λ (z : ℕ). s.names z) (themselves_same (parameters_of (whole w.front)) x y h)) in (
          row_step rules.table.arrays e.0.row s,
          taken_goes w s stands.never (row.1 s stands.forms stands.never) do_same,
          λ n. ap (λ (o : Option AutomatonState). seen_of (state_step rules.table states o s) (run_from (automaton_step rules.table states) n)) e.1,
        )

    -- what a row shows, and then n rows more, where n rows more from each member are answered
    forth_of : (n : ℕ) (w : Window) (s : State) (b : RowOutcome AutomatonLeaf) → NeverFaults (window_run rules.table w s) → Row_goes w s b
        → ((number : ℕ) (v : Window) (t : State) → Stands number v t
        → (m : ℕ) × Answers (run_at number t n) (window_run rules.table v t m) (run_at number t n).end)
        → (m : ℕ) × Answers (seen_of (outcome_step rules.table states b) (run_from (automaton_step rules.table states) n))
        (window_run rules.table w s m)
        (seen_of (outcome_step rules.table states b) (run_from (automaton_step rules.table states) n)).end
    forth_of n w s b never (commits {out} {new} (along {leaf} beside)) next = beside.forth n
    forth_of n w s b never (commits {out} {new} (ahead {number} {arguments} member at items kept)) next =
        let t = passed_state new (state_parameters (slice_get states number)) arguments in
        let m = next number member t (record { at = at; forms = kept.forms; never = never_left rules.table w member s t out kept never }) in
        let k = kept.back m.0 in (
          k.0,
          answer_of_answer (after_printing out (run_at number t n)) (after_printing out (window_run rules.table member t m.0))
              (window_run rules.table w s k.0)
              (Answers-after out (run_at number t n) (window_run rules.table member t m.0) (run_at number t n).end m.1) k.1,
        )

    -- what n rows show, the window's run comes to answer
    forth : (n number : ℕ) (w : Window) (s : State) → Stands number w s
        → (m : ℕ) × Answers (run_at number s n) (window_run rules.table w s m) (run_at number s n).end
    forth zero number w s stands = (0, ([], refl))
    forth (suc n) number w s stands =
        let r = row_goes number w s stands in
        let m = forth_of n w s r.0 stands.never r.1 (λ k v t h. forth n k v t h) in
        (m.0, subst (λ (x : Seen). Answers x (window_run rules.table w s m.0) x.end) (sym (r.2 n)) m.1)

    -- what n units show, and n + 1 units where the window has an item or test, a row and n rows more answer, where n rows answer n
    -- units from each member that has one
    abbrev Paced : ℕ → Type 0
    Paced n = (number : ℕ) (v : Window) (t : State) → Stands number v t → (IsBare (whole v.front) → ⊥)
        → Answers (window_run rules.table v t n) (run_at number t n) (window_run rules.table v t n).end

    record PacedBy (w : Window) (s : State) (n : ℕ) (x : Seen) : Type 0 where
      level : Answers (window_run rules.table w s n) x (window_run rules.table w s n).end
      gains : (IsBare (whole w.front) → ⊥) → Answers (window_run rules.table w s (suc n)) x (window_run rules.table w s (suc n)).end

    back_of : (n : ℕ) (w : Window) (s : State) (b : RowOutcome AutomatonLeaf) → NeverFaults (window_run rules.table w s) → Row_goes w s b → Paced n
        → PacedBy w s n (seen_of (outcome_step rules.table states b) (run_from (automaton_step rules.table states) n))
    back_of n w s b never (commits {out} {new} (along {leaf} beside)) next = record { level = beside.pace n; gains = λ items. beside.gains items n }
    back_of n w s b never (commits {out} {new} (ahead {number} {arguments} member at items kept)) next =
        let t = passed_state new (state_parameters (slice_get states number)) arguments in
        let m = next number member t (record { at = at; forms = kept.forms; never = never_left rules.table w member s t out kept never }) items in
        let ahead_by_one : Answers (window_run rules.table w s (suc n)) (after_printing out (run_at number t n)) (window_run rules.table w s (suc n)).end =
        answer_of_answer (window_run rules.table w s (suc n)) (after_printing out (window_run rules.table member t n)) (after_printing out (run_at number t n))
        (kept.pace n) (Answers-after out (window_run rules.table member t n) (run_at number t n) (window_run rules.table member t n).end m) in
        record {
          level = answer_of_answer (window_run rules.table w s n) (window_run rules.table w s (suc n)) (after_printing out (run_at number t n)) (window_grows w s n) ahead_by_one;
          gains = λ has. ahead_by_one;
        }

    -- a row and n rows more, from a state
    paced_by : (n number : ℕ) (w : Window) (s : State) → Stands number w s → Paced n → PacedBy w s n (run_at number s (suc n))
    paced_by n number w s stands next =
        let r = row_goes number w s stands in
        subst (λ (x : Seen). PacedBy w s n x) (sym (r.2 n)) (back_of n w s r.0 stands.never r.1 next)

    -- so as many rows as units are enough, where the window has an item or test
    paced : (n : ℕ) → Paced n
    paced zero number w s stands items = ((run_at number s 0).printed, refl)
    paced (suc n) number w s stands items = (paced_by n number w s stands (paced n)).gains items

    -- the run from a state and that of a window
    pub record StateRuns (number : ℕ) (w : Window) (s : State) : Type 0 where
      pub agree : Agree (run_at number s) (window_run rules.table w s)
      pub pace : (IsBare (whole w.front) → ⊥) → KeepsPace (window_run rules.table w s) (run_at number s)
      pub behind : (n : ℕ) → Answers (window_run rules.table w s n) (run_at number s (suc n)) (window_run rules.table w s n).end

    -- a state with the values of a member's parameters does what the member does, and is at most one row behind it
    pub state_agrees : (number : ℕ) (w : Window) (s : State) → slice_get members number ≡ Some w → FormsHold rules.table w s → NeverFaults (window_run rules.table w s)
        → StateRuns number w s
    state_agrees number w s at forms never =
        let stands : Stands number w s = record { at = at; forms = forms; never = never } in
        let behind = λ (n : ℕ). (paced_by n number w s stands (paced n)).level in
        record {
          agree = record { forth = λ n. forth n number w s stands; back = λ n. (suc n, behind n) };
          pace = λ items n. paced n number w s stands items;
          behind = behind;
        }
