-- A window whose front is filled and then cut keeps its run, its forms and its pace.
use Rattle.std.proofs.Common.{◌≡◌, ℕ, zero, suc, List, [], ◌∷◌, Option, Some, None, refl, sym, subst, arith}
use Rattle.std.specs.Prelude.{ℤ, Bool, true, false, if◌then◌else◌}
use Rattle.pc_word.specs.declared.item.Item.{Item}
use Rattle.pc_word.specs.declared.item.Operand.{Operand}
use Rattle.pc_word.specs.Word.{holds}
use Rattle.pc_word.specs.Run.{Seen, Answers, Follows, Agree, after_printing, seen_of, run_from, NeverFaults}
use Rattle.pc_word.proofs.Runs.{Answers-refl, Answers-after, Follows-trans}
use Rattle.pc_word.specs.declared.item.MachineFault.{MachineFault}
use Rattle.pc_word.specs.State.{State}
use Rattle.pc_word.specs.Commit.{fault_of, prints_of}
use Rattle.pc_window.specs.Walk.{after_item}
use Rattle.pc_word.specs.Items.{operand_value}
use Rattle.pc_table.specs.Table.{Table}
use Rattle.pc_word.specs.Row.{Row, RowOutcome, Faults, Commits, commit_of, row_step}
use Rattle.pc_table.specs.RegionRun.{lead_on}
use Rattle.pc_window.specs.Tree.{Front, Issued, Split, Unfinished, whole}
use Rattle.pc_window.specs.WindowRun.{Window, enter, window_step, tree_run, window_run, seen_first, seen_side, front_run}
use Rattle.pc_window.specs.Kept.{Left, Rest, Gone, Finished, Trapped_at, left_run, KeepsPace, GainsUnit, LeftKept, TakenKept, RowKeeps}
use Rattle.pc_window.specs.Kept.{IsBare, IsRooted, FilledIn, OutKept, OutCut, LeftCut, TakenCut}
use Rattle.pc_window.specs.Steps.{FillsTo, Cuts, IsProper}
use Rattle.pc_window.proofs.Units.{led, entered, first_answers, side_answers, front_grows}
use Rattle.pc_window.proofs.Filling.{fills_keep}
use Rattle.pc_window.proofs.CutRows.{cuts_keep}
use Rattle.pc_window.proofs.Proper.{fills_proper}
use Rattle.pc_window.proofs.Paces.{answer_of_answer, NeverFaults-follows}

-- ---- a front that costs nothing

pub answers_as : (x x' y : Seen) → x ≡ x' → Answers x' y x'.end → Answers x y x.end
answers_as x x' y e h = subst (λ (z : Seen). Answers z y z.end) (sym e) h

pub answered_as : (x y y' : Seen) → y ≡ y' → Answers x y' x.end → Answers x y x.end
answered_as x y y' e h = subst (λ (z : Seen). Answers x z x.end) (sym e) h

-- the first item or test of a front takes a unit from what comes after it
done_gains : (table : Table) (tag origin : ℕ) (item : Item) (rest : Front) (s : State)
    → KeepsPace (tree_run table (whole rest) (after_item table.arrays item s)) (front_run table rest (after_item table.arrays item s))
    → GainsUnit (tree_run table (whole (Issued tag origin item rest)) s) (front_run table (Issued tag origin item rest) s)
done_gains table tag origin item rest s next n =
    answers_as (tree_run table (whole (Issued tag origin item rest)) s (suc n))
    (seen_first (fault_of table.arrays s (item ∷ [])) (prints_of s (item ∷ [])) (tree_run table (whole rest) (after_item table.arrays item s) n))
    (front_run table (Issued tag origin item rest) s n)
    (led table n item (whole rest) s (fault_of table.arrays s (item ∷ [])))
    (first_answers table (fault_of table.arrays s (item ∷ [])) (prints_of s (item ∷ []))
    (tree_run table (whole rest) (after_item table.arrays item s) n) (front_run table rest (after_item table.arrays item s) n) (next n))

split_gains : (table : Table) (tag origin : ℕ) (on : Operand) (on_yes on_no : Front) (s : State) → KeepsPace (tree_run table (whole on_yes) s) (front_run table on_yes s)
    → KeepsPace (tree_run table (whole on_no) s) (front_run table on_no s)
    → GainsUnit (tree_run table (whole (Split tag origin on on_yes on_no)) s) (front_run table (Split tag origin on on_yes on_no) s)
split_gains table tag origin on on_yes on_no s p q n =
    answers_as (tree_run table (whole (Split tag origin on on_yes on_no)) s (suc n))
    (seen_side (holds (operand_value s.names on)) (tree_run table (whole on_yes) s n) (tree_run table (whole on_no) s n)) (front_run table (Split tag origin on on_yes on_no) s n)
    (entered table n (holds (operand_value s.names on)) (whole on_yes) (whole on_no) s)
    (side_answers table (holds (operand_value s.names on)) (tree_run table (whole on_yes) s n) (tree_run table (whole on_no) s n) (front_run table on_yes s n) (front_run table on_no s n) (p n) (q n))

-- the window's run is not ahead of the one whose front costs nothing
pub front_pace : (table : Table) (front : Front) (s : State) → KeepsPace (tree_run table (whole front) s) (front_run table front s)
front_pace table (Issued tag origin item rest) s zero = ((front_run table (Issued tag origin item rest) s 0).printed, refl)
front_pace table (Issued tag origin item rest) s (suc n) =
    answer_of_answer (tree_run table (whole (Issued tag origin item rest)) s (suc n)) (front_run table (Issued tag origin item rest) s n) (front_run table (Issued tag origin item rest) s (suc n))
    (done_gains table tag origin item rest s (front_pace table rest (after_item table.arrays item s)) n) (front_grows table (Issued tag origin item rest) s n (suc n) (omega arith))
front_pace table (Split tag origin on on_yes on_no) s zero = ((front_run table (Split tag origin on on_yes on_no) s 0).printed, refl)
front_pace table (Split tag origin on on_yes on_no) s (suc n) =
    answer_of_answer (tree_run table (whole (Split tag origin on on_yes on_no)) s (suc n)) (front_run table (Split tag origin on on_yes on_no) s n)
    (front_run table (Split tag origin on on_yes on_no) s (suc n))
    (split_gains table tag origin on on_yes on_no s (front_pace table on_yes s) (front_pace table on_no s) n) (front_grows table (Split tag origin on on_yes on_no) s n (suc n) (omega arith))
front_pace table (Unfinished tree) s n = Answers-refl (tree_run table tree s n)

-- a front that has the first item or test, if there is one, is a unit ahead of the window's run
pub front_gains : (table : Table) (front : Front) (s : State) → IsRooted front → (IsBare (whole front) → ⊥) → GainsUnit (tree_run table (whole front) s) (front_run table front s)
front_gains table (Issued tag origin item rest) s rooted items = done_gains table tag origin item rest s (front_pace table rest (after_item table.arrays item s))
front_gains table (Split tag origin on on_yes on_no) s rooted items = split_gains table tag origin on on_yes on_no s (front_pace table on_yes s) (front_pace table on_no s)
front_gains table (Unfinished tree) s rooted items = absurd (items rooted)

first_follows : (table : Table) (item : Item) (rest : Front) (s : State) (f : Option MachineFault) (n : ℕ)
    → Follows (front_run table rest (after_item table.arrays item s)) (tree_run table (whole rest) (after_item table.arrays item s))
    → (m : ℕ) × Answers (seen_first f (prints_of s (item ∷ [])) (front_run table rest (after_item table.arrays item s) n))
    (seen_of (lead_on (commit_of table.arrays s (item ∷ []) (whole rest) f) (enter table)) (run_from (window_step table) m))
    (seen_first f (prints_of s (item ∷ [])) (front_run table rest (after_item table.arrays item s) n)).end
first_follows table item rest s (Some fault) n next = (0, (refl, refl))
first_follows table item rest s None n next =
    let new = after_item table.arrays item s in
    let m = next n in
    (m.0, Answers-after (prints_of s (item ∷ [])) (front_run table rest new n) (tree_run table (whole rest) new m.0) (front_run table rest new n).end m.1)

side_follows : (table : Table) (b : Bool) (on_yes on_no : Front) (s : State) (n : ℕ) → Follows (front_run table on_yes s) (tree_run table (whole on_yes) s)
    → Follows (front_run table on_no s) (tree_run table (whole on_no) s)
    → (m : ℕ) × Answers (seen_side b (front_run table on_yes s n) (front_run table on_no s n))
    (run_from (window_step table) m (enter table (if b then whole on_yes else whole on_no) s)) (seen_side b (front_run table on_yes s n) (front_run table on_no s n)).end
side_follows table true on_yes on_no s n p q = p n
side_follows table false on_yes on_no s n p q = q n

-- and it comes to show no more
pub front_follows : (table : Table) (front : Front) (s : State) → Follows (front_run table front s) (tree_run table (whole front) s)
front_follows table (Issued tag origin item rest) s n =
    let m = first_follows table item rest s (fault_of table.arrays s (item ∷ [])) n (front_follows table rest (after_item table.arrays item s)) in
    (suc m.0, m.1)
front_follows table (Split tag origin on on_yes on_no) s n =
    let m = side_follows table (holds (operand_value s.names on)) on_yes on_no s n (front_follows table on_yes s) (front_follows table on_no s) in
    (suc m.0, m.1)
front_follows table (Unfinished tree) s n = (n, Answers-refl (tree_run table tree s n))

pub front_agrees : (table : Table) (front : Front) (s : State) → Agree (tree_run table (whole front) s) (front_run table front s)
front_agrees table front s = record { forth = λ n. (n, front_pace table front s n); back = front_follows table front s }

-- ---- filled and cut

module _ (table : Table) (w v : Window) (s : State) (rooted : IsRooted w.front) (filled : FilledIn table w v s) where
  -- the fuller front follows the window's run
  filled_follows : Follows (front_run table v.front s) (window_run table w s)
  filled_follows = Follows-trans (front_run table v.front s) (front_run table w.front s) (window_run table w s) filled.back (front_follows table w.front s)

  filled_never : NeverFaults (window_run table w s) → NeverFaults (window_run table v s)
  filled_never never =
      NeverFaults-follows (window_run table v s) (window_run table w s)
      (Follows-trans (window_run table v s) (front_run table v.front s) (window_run table w s) (front_agrees table v.front s).forth filled_follows) never

  -- what follows where no window is left is not behind the fuller front
  out_kept : (printed : List ℤ) (new : State) (left : Left) → OutCut table v s printed new left → OutKept table w s printed new left
  out_kept printed new left h =
      let after = λ (n : ℕ). after_printing printed (left_run table left new n) in
      record {
        pace = λ n. answer_of_answer (window_run table w s n) (front_run table v.front s n) (after n)
            (answer_of_answer (window_run table w s n) (front_run table w.front s n) (front_run table v.front s n) (front_pace table w.front s n) (filled.pace n)) (h.pace n);
        gains = λ items n. answer_of_answer (window_run table w s (suc n)) (front_run table v.front s n) (after n)
            (answer_of_answer (window_run table w s (suc n)) (front_run table w.front s n) (front_run table v.front s n) (front_gains table w.front s rooted items n) (filled.pace n)) (h.pace n);
        back = Follows-trans after (front_run table v.front s) (window_run table w s) h.back filled_follows;
      }

  left_kept : (printed : List ℤ) (new : State) (left : Left) → LeftCut table v s printed new left → LeftKept table w s printed new left
  left_kept printed new (Rest rest) h =
      let gains = front_gains table w.front s rooted (λ bare. h.items (filled.bare bare)) in
      record {
        pace = λ n. answered_as (window_run table w s (suc n)) (after_printing printed (window_run table rest new n)) (front_run table v.front s n) (sym (h.same n))
            (answer_of_answer (window_run table w s (suc n)) (front_run table w.front s n) (front_run table v.front s n) (gains n) (filled.pace n));
        back = λ n. let m = filled_follows n in (m.0, answers_as (after_printing printed (window_run table rest new n)) (front_run table v.front s n) (window_run table w s m.0) (sym (h.same n)) m.1);
        forms = h.forms;
      }
  left_kept printed new (Gone region homes) h = out_kept printed new (Gone region homes) h
  left_kept printed new Finished h = out_kept printed new Finished h
  left_kept printed new (Trapped_at kind line) h = out_kept printed new (Trapped_at kind line) h

  taken_kept : (taken : RowOutcome Left) → TakenCut table v s taken → TakenKept table w s taken
  taken_kept (Faults fault) h = absurd h
  taken_kept (Commits printed new left) h = left_kept printed new left h

-- the row of a window that has its root and is filled keeps the window's run, its forms and its pace
pub filled_rows_keep : (table : Table) (w v : Window) (row : Row Left) → IsRooted w.front → FillsTo w v → Cuts table v row → IsProper w → RowKeeps table w row
filled_rows_keep table w v row rooted fills cuts proper s forms never =
    let filled = fills_keep table w v fills proper s forms never in
    taken_kept table w v s rooted filled (row_step table.arrays row s)
    (cuts_keep table v row cuts (fills_proper w v fills proper) s filled.forms (filled_never table w v s rooted filled never))
