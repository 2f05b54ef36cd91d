-- The automaton of a closed search does what its region does, and n of its rows show what n units of the region show.
use Rattle.std.proofs.Common.{◌≡◌, ℕ, zero, suc, List, [], Some, refl, sym, ◌∙◌, ap, subst}
use Rattle.std.specs.Prelude.{Option, slice_get}
use Rattle.pc_word.specs.declared.item.End.{End}
use Rattle.pc_word.specs.declared.item.End.TheVariants.{Ended, Trapped}
use Rattle.pc_word.specs.Run.{Seen, Run, seen_of, run_from, NeverFaults}
use Rattle.pc_word.proofs.Runs.{Answers-equal}
use Rattle.pc_word.specs.State.{State}
use Rattle.pc_word.specs.Row.{Row, At_leaf, row_step}
use Rattle.pc_table.specs.Table.{Next}
use Rattle.pc_table.specs.RegionRun.{region_run}
use Rattle.pc_table.specs.TableKeeps.{TableKeeps}
use Rattle.pc_window.specs.declared.home.Home.{Home}
use Rattle.pc_window.specs.Tree.{Tree, Pending, Undecided, Exit, Stop_exit, Trap_exit, whole, front_of}
use Rattle.pc_window.specs.WindowRun.{Window, tree_run, window_run}
use Rattle.pc_window.specs.Tidying.{tidied}
use Rattle.pc_window.specs.Kept.{KeepsPace, IsBare}
use Rattle.pc_window.specs.Steps.{Positive}
use Rattle.pc_window.proofs.CutRows.{whole_front_of}
use Rattle.pc_window.proofs.Paces.{answer_of_answer}
use Rattle.pc_window.proofs.Proper.{opens_proper}
use Rattle.pc_automaton.specs.declared.automaton.AutomatonLeaf.{AutomatonLeaf}
use Rattle.pc_automaton.specs.declared.automaton.AutomatonLeaf.TheVariants.{Stop, Trap}
use Rattle.pc_automaton.specs.Automaton.{AutomatonState}
use Rattle.pc_automaton.specs.AutomatonRun.{outcome_step, state_step, automaton_step, automaton_run}
use Rattle.pc_automaton.specs.RunsAsRegion.{RunsAlike}
use Rattle.pc_pattern.specs.Searches.{Rules, IsClosed, StateFor, Automates}
use Rattle.pc_pattern.proofs.FirstPaces.{first_ahead}
use Rattle.pc_pattern.proofs.FirstRows.{first_ends, first_traps}
use Rattle.pc_pattern.proofs.Members.{BeginsWith, begins_with, ClosedRuns, closed_runs}

module _ (rules : Rules) (keeps : TableKeeps rules.table) (room : Positive rules.limits) (region : ℕ) (members : List Window) (states : List AutomatonState)
    (closed : IsClosed rules region members) (auto : Automates rules members states) (s : State) (never : NeverFaults (region_run rules.table (Next region) s)) where
  abbrev begun : BeginsWith rules keeps room region members
  begun = begins_with rules keeps room region closed.1

  abbrev runs : ClosedRuns rules keeps room region begun.first states s
  runs = closed_runs rules keeps room region members states closed auto s never

  abbrev of_region : Run
  of_region = region_run rules.table (Next region) s

  abbrev of_first : Run
  of_first = window_run rules.table begun.first s

  abbrev of_automaton : Run
  of_automaton = automaton_run rules.table states s

  -- the tree that the first window is
  abbrev first_tree : Tree
  first_tree = tidied (whole begun.settles.unwound.front)

  front_is : begun.first.front ≡ front_of first_tree
  front_is = ap (λ (w : Window). w.front) begun.settles.tidies

  tree_is : whole begun.first.front ≡ first_tree
  tree_is = ap whole front_is ∙ whole_front_of first_tree

  -- the state of the first window
  first_state : (state : AutomatonState) × (slice_get states 0 ≡ Some state) × StateFor rules members begun.first state
  first_state = auto.each 0 begun.first (ap (λ (ws : List Window). slice_get ws 0) begun.at)

  -- a first row that is an end alone ends at once
  abbrev seen_end : End → Seen
  seen_end end = record { printed = []; end = Some end }

  row_shows : (row : Row AutomatonLeaf) → first_state.0.row ≡ row → (n : ℕ)
      → of_automaton (suc n) ≡ seen_of (outcome_step rules.table states (row_step rules.table.arrays row s)) (run_from (automaton_step rules.table states) n)
  row_shows row is n =
      ap (λ (o : Option AutomatonState). seen_of (state_step rules.table states o s) (run_from (automaton_step rules.table states) n)) first_state.1
      ∙ ap (λ (r : Row AutomatonLeaf). seen_of (outcome_step rules.table states (row_step rules.table.arrays r s)) (run_from (automaton_step rules.table states) n)) is

  -- where the first window shows an end in its first unit and the automaton in its first row
  at_end : (end : End) → ((n : ℕ) → of_first (suc n) ≡ seen_end end) → ((n : ℕ) → of_automaton (suc n) ≡ seen_end end) → KeepsPace of_region of_automaton
  at_end end window_ends automaton_ends zero = ((of_automaton 0).printed, refl)
  at_end end window_ends automaton_ends (suc n) =
      answer_of_answer (of_region (suc n)) (of_first (suc n)) (of_automaton (suc n)) (runs.level (suc n))
      (Answers-equal (of_first (suc n)) (of_automaton (suc n)) (window_ends n ∙ sym (automaton_ends n)))

  with_items : (IsBare first_tree → ⊥) → KeepsPace of_region of_automaton
  with_items items n =
      answer_of_answer (of_region n) (of_first n) (of_automaton n) (runs.level n) (runs.pace (λ bare. items (subst IsBare tree_is bare)) n)

  -- where the first window is a stub, it is a unit ahead of the region, and the automaton a row behind it
  at_stub : (to at : ℕ) (stub : List Home) → first_tree ≡ Exit to at stub → KeepsPace of_region of_automaton
  at_stub to at stub is zero = ((of_automaton 0).printed, refl)
  at_stub to at stub is (suc n) =
      answer_of_answer (of_region (suc n)) (of_first n) (of_automaton (suc n))
      (first_ahead rules keeps region begun.opened begun.first begun.opens begun.settles (opens_proper rules.table rules.limits region begun.opened room begun.opens)
      to at stub (tree_is ∙ is) s never n)
      (runs.behind n)

  kept_pace : KeepsPace of_region of_automaton
  kept_pace = by_tree first_tree refl
    where
      by_tree : (tree : Tree) → first_tree ≡ tree → KeepsPace of_region of_automaton
      by_tree (Pending tag origin item rest) is = with_items (λ bare. subst IsBare is bare)
      by_tree (Undecided tag origin on on_yes on_no) is = with_items (λ bare. subst IsBare is bare)
      by_tree (Exit to at stub) is = at_stub to at stub is
      by_tree Stop_exit is =
          at_end Ended (λ n. ap (λ (t : Tree). tree_run rules.table t s (suc n)) (tree_is ∙ is))
          (row_shows (At_leaf Stop) (first_ends rules members region begun.first first_state.0 first_state.2 (front_is ∙ ap front_of is)))
      by_tree (Trap_exit kind line) is =
          at_end (Trapped kind line) (λ n. ap (λ (t : Tree). tree_run rules.table t s (suc n)) (tree_is ∙ is))
          (row_shows (At_leaf (Trap kind line)) (first_traps rules members region begun.first first_state.0 first_state.2 kind line (front_is ∙ ap front_of is)))

  -- in every state from which the region's run never faults
  pub runs_alike : RunsAlike rules.table region states s
  runs_alike = record { agree = runs.agree; pace = kept_pace }
