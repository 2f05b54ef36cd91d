-- The front as a row: what it does, and what is left at its leaf.
use Rattle.std.proofs.Common.{◌≡◌, ℕ, zero, suc, ◌-◌, ◌<◌, ◌≤◌, List, [], ◌∷◌, ◌++◌, Option, Some, None, refl, sym, ◌∙◌, ap, subst, arith, append-nil}
use Rattle.std.specs.Prelude.{ℤ, Bool, true, false, if◌then◌else◌, nat_lt}
use Rattle.pc_word.specs.declared.item.Item.{Item}
use Rattle.pc_word.specs.declared.item.MachineFault.{MachineFault}
use Rattle.pc_word.specs.declared.item.End.{End}
use Rattle.pc_word.specs.declared.item.End.TheVariants.{Ended, Trapped}
use Rattle.pc_word.specs.Word.{holds}
use Rattle.pc_word.specs.declared.item.TrapKind.{TrapKind}
use Rattle.pc_word.specs.Run.{Seen, Answers, Agree, after_printing, ended_run}
use Rattle.pc_word.proofs.Runs.{Answers-equal, Agree-sym, Agree-trans, Agree-equal}
use Rattle.pc_word.specs.State.{State}
use Rattle.pc_word.specs.Items.{operand_value}
use Rattle.pc_word.specs.Commit.{fault_of, prints_of, state_after}
use Rattle.pc_table.specs.Table.{Table, Next}
use Rattle.pc_table.specs.RegionRun.{place_at}
use Rattle.pc_window.specs.declared.home.Home.{Home}
use Rattle.pc_window.specs.Tree.{Tree, Pending, Undecided, Exit, Stop_exit, Trap_exit, Front, Issued, Split, Unfinished, whole, front_of, home_state}
use Rattle.pc_window.specs.Names.{uses}
use Rattle.pc_window.specs.Walk.{Walked, Leaves, Finishes, IsWhole, printing, walk, outcome_walk}
use Rattle.pc_window.proofs.Shown.{behind_length, front_shown}
use Rattle.pc_window.specs.Hold.{HoldUnder}
use Rattle.pc_window.specs.WindowRun.{Window, tree_run, front_run, FormsHold}
use Rattle.pc_table.specs.Loops.{is_inside}
use Rattle.pc_window.proofs.Cutting.{rest_of, front_path, and_dests, Cut, cut}
use Rattle.pc_word.specs.Row.{Row, path_of, leaf_of, commit_of, row_step}
use Rattle.pc_window.specs.Kept.{Left, Rest, Gone, Finished, Trapped_at, left_run, KeepsPace, IsBare, RestCut, LeftCut, TakenCut, CutKeeps}
use Rattle.pc_window.specs.Steps.{with_tree, left_of, left_at_root, front_row, cut_row, Cuts, IsProper}
use Rattle.pc_window.specs.Laws.{RowsDoWhatTheirPathsDo}
use Rattle.pc_window.proofs.Parameters.{parameters_known}
use Rattle.pc_window.proofs.Paces.{Agree-ends_at_once}
use Rattle.pc_window.proofs.Units.{beyond_is_region, counted, counted-after, never_whole, front_early, front_late, tree_early, tree_late}

-- ---- the row is the front's path

pub row_items : {L : Type 0} (left : Tree → L) (front : Front) (names : ℕ → ℤ) → path_of names (front_row left front) ≡ front_path names front
row_items left (Issued tag origin item rest) names = ap (λ (l : List Item). item ∷ l) (row_items left rest names)
row_items left (Split tag origin on p q) names = by_test (holds (operand_value names on)) (row_items left p names) (row_items left q names)
  where
    by_test : (b : Bool) → path_of names (front_row left p) ≡ front_path names p → path_of names (front_row left q) ≡ front_path names q
        → (if b then path_of names (front_row left p) else path_of names (front_row left q)) ≡ (if b then front_path names p else front_path names q)
    by_test true h k = h
    by_test false h k = k
row_items left (Unfinished rest) names = refl

pub row_leaf : {L : Type 0} (left : Tree → L) (front : Front) (names : ℕ → ℤ) → leaf_of names (front_row left front) ≡ left (rest_of names front)
row_leaf left (Issued tag origin item rest) names = row_leaf left rest names
row_leaf left (Split tag origin on p q) names = by_test (holds (operand_value names on)) (row_leaf left p names) (row_leaf left q names)
  where
    by_test : (b : Bool) → leaf_of names (front_row left p) ≡ left (rest_of names p) → leaf_of names (front_row left q) ≡ left (rest_of names q)
        → (if b then leaf_of names (front_row left p) else leaf_of names (front_row left q)) ≡ left (if b then rest_of names p else rest_of names q)
    by_test true h k = h
    by_test false h k = k
row_leaf left (Unfinished rest) names = refl

pub whole_front_of : (tree : Tree) → whole (front_of tree) ≡ tree
whole_front_of (Pending tag origin item rest) = refl
whole_front_of (Undecided tag origin on on_yes on_no) = refl
whole_front_of (Exit region tag homes) = refl
whole_front_of Stop_exit = refl
whole_front_of (Trap_exit kind line) = refl

-- forms that hold on a tree hold on the window that it becomes
pub becomes_holds : (table : Table) (w : Window) (tree : Tree) (s : State) (σ : ℕ → ℤ) → HoldUnder σ w.forms table.arrays tree s → FormsHold table (with_tree w tree) s
becomes_holds table w tree s σ h = (σ, subst (λ (t : Tree). HoldUnder σ w.forms table.arrays t s) (sym (whole_front_of tree)) h)

-- ---- the run of what is left

module _ (table : Table) (w : Window) (s : State) where
  abbrev path : List Item
  path = front_path s.names w.front

  abbrev rest : Tree
  rest = rest_of s.names w.front

  abbrev next : State
  next = state_after table.arrays s path

  is_less : (a b : ℕ) → nat_lt a b ≡ true → a < b
  is_less a b e = grind arith

  is_not : (a b : ℕ) → nat_lt a b ≡ false → b ≤ a
  is_not a b e = grind arith

  rest_whole : (out : List ℤ) (v : Walked) → IsWhole (printing out v) → IsWhole v
  rest_whole out (Leaves printed region t) h = tt
  rest_whole out (Finishes printed end) h = h

  -- where a front that costs nothing is cut off, what it printed comes first and then the run of what is left
  cut_runs : (known : ℕ → Bool) (σ : ℕ → ℤ) → IsWhole (walk table.arrays (whole w.front) s)
      → Cut table.arrays known σ w.forms s (walk table.arrays (whole w.front) s) path rest (behind_length table.arrays w.front s) (front_shown table.arrays w.front s)
      → (n : ℕ) → front_run table w.front s n ≡ after_printing (prints_of s path) (tree_run table rest next n)
  cut_runs known σ ok c n = by_length (nat_lt (behind_length table.arrays w.front s) n) refl
    where
      ok' : IsWhole (walk table.arrays rest next)
      ok' = rest_whole (prints_of s path) (walk table.arrays rest next) (subst IsWhole c.same ok)

      by_length : (b : Bool) → nat_lt (behind_length table.arrays w.front s) n ≡ b → front_run table w.front s n ≡ after_printing (prints_of s path) (tree_run table rest next n)
      by_length false e =
          let le = is_not (behind_length table.arrays w.front s) n e in
          let same = c.as_long in
          front_early table w.front s n ok le
          ∙ ap (λ (l : List ℤ). let x : Seen = record { printed = l; end = None } in x) (c.shows n)
          ∙ sym (ap (λ (x : Seen). after_printing (prints_of s path) x) (tree_early table rest next n ok' (omega arith)))
      by_length true e =
          let lt = is_less (behind_length table.arrays w.front s) n e in
          let same = c.as_long in
          let r = n - behind_length table.arrays w.front s in
          front_late table w.front s n r ok (omega arith)
          ∙ ap (λ (v : Walked). counted table v r) c.same
          ∙ sym (counted-after table (prints_of s path) (walk table.arrays rest next) r)
          ∙ sym (ap (λ (x : Seen). after_printing (prints_of s path) x) (tree_late table rest next n r ok' (omega arith)))

  -- ---- what is left at the leaf

  abbrev CutAt : Tree → Type 0
  CutAt tree = (n : ℕ) → front_run table w.front s n ≡ after_printing (prints_of s path) (tree_run table tree next n)

  left_rest : (σ : ℕ → ℤ) (tree : Tree) → CutAt tree → HoldUnder σ w.forms table.arrays tree next
      → (IsBare (whole w.front) → ⊥) → RestCut table w s (prints_of s path) next (with_tree w tree)
  left_rest σ tree runs holds items = record {
    same = λ n. runs n ∙ ap (λ (t : Tree). after_printing (prints_of s path) (tree_run table t next n)) (sym (whole_front_of tree));
    forms = becomes_holds table w tree next σ holds;
    items = items;
  }

  left_gone : (region tag : ℕ) (homes : List Home) → CutAt (Exit region tag homes) → LeftCut table w s (prints_of s path) next (Gone region homes)
  left_gone region tag homes runs =
      let same : (n : ℕ) → front_run table w.front s n ≡ after_printing (prints_of s path) (left_run table (Gone region homes) next n) =
      λ n. runs n ∙ ap (λ (x : Seen). after_printing (prints_of s path) x) (beyond_is_region table n (place_at table (Next region) (home_state next homes))) in
      record { pace = λ n. Answers-equal _ _ (same n); back = λ n. (n, Answers-equal _ _ (sym (same n))) }

  -- what ends is not behind what comes to end
  ends_pace : (end : End) (tree : Tree) → CutAt tree → tree_run table tree next 0 ≡ record { printed = []; end = None }
      → ((n : ℕ) → tree_run table tree next (suc n) ≡ record { printed = []; end = Some end })
      → KeepsPace (front_run table w.front s) (λ n. after_printing (prints_of s path) (ended_run [] end n))
  ends_pace end tree runs starts ends zero =
      subst (λ (x : Seen). Answers x (after_printing (prints_of s path) (ended_run [] end 0)) x.end)
      (sym (runs 0 ∙ ap (λ (x : Seen). after_printing (prints_of s path) x) starts)) ([], append-nil (prints_of s path ++ []))
  ends_pace end tree runs starts ends (suc n) =
      subst (λ (x : Seen). Answers x (after_printing (prints_of s path) (ended_run [] end (suc n))) x.end)
      (sym (runs (suc n) ∙ ap (λ (x : Seen). after_printing (prints_of s path) x) (ends n))) (refl, refl)

  ends_agree : (end : End) (tree : Tree) → CutAt tree → tree_run table tree next 0 ≡ record { printed = []; end = None }
      → ((n : ℕ) → tree_run table tree next (suc n) ≡ record { printed = []; end = Some end })
      → Agree (front_run table w.front s) (λ n. after_printing (prints_of s path) (ended_run [] end n))
  ends_agree end tree runs starts ends =
      Agree-trans (front_run table w.front s) (λ n. after_printing (prints_of s path) (tree_run table tree next n)) (λ n. after_printing (prints_of s path) (ended_run [] end n))
      (Agree-equal (front_run table w.front s) (λ n. after_printing (prints_of s path) (tree_run table tree next n)) runs)
      (Agree-sym (λ n. after_printing (prints_of s path) (ended_run [] end n)) (λ n. after_printing (prints_of s path) (tree_run table tree next n))
      (Agree-ends_at_once (prints_of s path) end (λ n. after_printing (prints_of s path) (ended_run [] end n)) (λ n. after_printing (prints_of s path) (tree_run table tree next n))
      (λ n. ap (λ (l : List ℤ). let x : Seen = record { printed = l; end = Some end } in x) (append-nil (prints_of s path)))
      (ap (λ (x : Seen). after_printing (prints_of s path) x) starts ∙ ap (λ (l : List ℤ). let x : Seen = record { printed = l; end = None } in x) (append-nil (prints_of s path)))
      (λ n. ap (λ (x : Seen). after_printing (prints_of s path) x) (ends n) ∙ ap (λ (l : List ℤ). let x : Seen = record { printed = l; end = Some end } in x) (append-nil (prints_of s path)))))

  left_stops : CutAt Stop_exit → LeftCut table w s (prints_of s path) next Finished
  left_stops runs = record {
    pace = ends_pace Ended Stop_exit runs refl (λ n. refl);
    back = (ends_agree Ended Stop_exit runs refl (λ n. refl)).back;
  }

  left_traps : (kind : TrapKind) (line : ℕ) → CutAt (Trap_exit kind line) → LeftCut table w s (prints_of s path) next (Trapped_at kind line)
  left_traps kind line runs = record {
    pace = ends_pace (Trapped kind line) (Trap_exit kind line) runs refl (λ n. refl);
    back = (ends_agree (Trapped kind line) (Trap_exit kind line) runs refl (λ n. refl)).back;
  }

  left_cut : (σ : ℕ → ℤ) (tree : Tree) → CutAt tree → HoldUnder σ w.forms table.arrays tree next
      → (IsBare (whole w.front) → ⊥) → LeftCut table w s (prints_of s path) next (left_of table w tree)
  left_cut σ (Pending tag origin item below) runs holds items = left_rest σ (Pending tag origin item below) runs holds items
  left_cut σ (Undecided tag origin on on_yes on_no) runs holds items = left_rest σ (Undecided tag origin on on_yes on_no) runs holds items
  left_cut σ (Exit region tag homes) runs holds items = by_loop (is_inside table w.inside region)
    where
      by_loop : (b : Bool) → LeftCut table w s (prints_of s path) next (if b then Rest (with_tree w (Exit region tag homes)) else Gone region homes)
      by_loop true = left_rest σ (Exit region tag homes) runs holds items
      by_loop false = left_gone region tag homes runs
  left_cut σ Stop_exit runs holds items = left_stops runs
  left_cut σ (Trap_exit kind line) runs holds items = left_traps kind line runs

  left_cut_root : (σ : ℕ → ℤ) (tree : Tree) → whole w.front ≡ tree → CutAt tree → HoldUnder σ w.forms table.arrays tree next
      → LeftCut table w s (prints_of s path) next (left_at_root table w tree)
  left_cut_root σ (Pending tag origin item below) is runs holds = left_rest σ (Pending tag origin item below) runs holds (λ bare. subst IsBare is bare)
  left_cut_root σ (Undecided tag origin on on_yes on_no) is runs holds = left_rest σ (Undecided tag origin on on_yes on_no) runs holds (λ bare. subst IsBare is bare)
  left_cut_root σ (Exit region tag homes) is runs holds = left_gone region tag homes runs
  left_cut_root σ Stop_exit is runs holds = left_stops runs
  left_cut_root σ (Trap_exit kind line) is runs holds = left_traps kind line runs

  -- ---- the row

  row_cut : (left : Tree → Left) → fault_of table.arrays s path ≡ None → LeftCut table w s (prints_of s path) next (left rest)
      → TakenCut table w s (row_step table.arrays (front_row left w.front) s)
  row_cut left none h =
      subst (λ (items : List Item). TakenCut table w s (commit_of table.arrays s items (leaf_of s.names (front_row left w.front)) (fault_of table.arrays s items)))
      (sym (row_items left w.front s.names))
      (subst (λ (l : Left). TakenCut table w s (commit_of table.arrays s path l (fault_of table.arrays s path))) (sym (row_leaf left w.front s.names))
      (subst (λ (f : Option MachineFault). TakenCut table w s (commit_of table.arrays s path (left rest) f)) (sym none) h))

  front_cut : (σ : ℕ → ℤ) → fault_of table.arrays s path ≡ None → CutAt rest → HoldUnder σ w.forms table.arrays rest next → (front : Front) → w.front ≡ front
      → TakenCut table w s (row_step table.arrays (cut_row table w front) s)
  front_cut σ none runs holds (Issued tag origin item below) is =
      subst (λ (f : Front). TakenCut table w s (row_step table.arrays (front_row (left_of table w) f) s)) is
      (row_cut (left_of table w) none (left_cut σ rest runs holds (λ bare. subst (λ (f : Front). IsBare (whole f)) is bare)))
  front_cut σ none runs holds (Split tag origin on p q) is =
      subst (λ (f : Front). TakenCut table w s (row_step table.arrays (front_row (left_of table w) f) s)) is
      (row_cut (left_of table w) none (left_cut σ rest runs holds (λ bare. subst (λ (f : Front). IsBare (whole f)) is bare)))
  front_cut σ none runs holds (Unfinished tree) is =
      subst (λ (f : Front). TakenCut table w s (row_step table.arrays (front_row (left_at_root table w) f) s)) is
      (row_cut (left_at_root table w) none (left_cut_root σ rest (ap (λ (f : Front). whole f) is ∙ sym (ap (λ (f : Front). rest_of s.names f) is)) runs holds))

-- ---- what cutting owes

pub cuts_keep : (table : Table) (w : Window) (row : Row Left) → Cuts table w row → IsProper w → CutKeeps table w row
cuts_keep table w row is proper s forms never =
    let known = uses (whole w.front) in
    let ok = never_whole table (whole w.front) s never in
    let c : Cut table.arrays known forms.0 w.forms s (walk table.arrays (whole w.front) s) (front_path s.names w.front) (rest_of s.names w.front)
    (behind_length table.arrays w.front s) (front_shown table.arrays w.front s) =
    cut table.arrays known forms.0 w.forms w.front known s (λ x k. k) proper.window.independent proper.window.scoped forms.1.parameters forms.1.defined ok in
    subst (λ (r : Row Left). TakenCut table w s (row_step table.arrays r s)) (sym is)
    (front_cut table w s forms.0 c.no_fault (cut_runs table w s known forms.0 ok c)
    (record { parameters = λ x u. c.of_known x (parameters_known (rest_of s.names w.front) (and_dests known (front_path s.names w.front)) c.scoped x u); defined = c.defines }) w.front refl)

-- the row of a front does at once what its path does in order
pub rows_do_paths : RowsDoWhatTheirPathsDo
rows_do_paths lengths w s proper forms ok =
    let path = front_path s.names w.front in
    let c = cut lengths (uses (whole w.front)) forms.0 w.forms w.front (uses (whole w.front)) s (λ x k. k) proper.window.independent proper.window.scoped forms.1.parameters forms.1.defined ok in
    ap (λ (items : List Item). outcome_walk lengths (commit_of lengths s items (leaf_of s.names (front_row (λ (tree : Tree). tree) w.front)) (fault_of lengths s items)))
    (row_items (λ tree. tree) w.front s.names)
    ∙ ap (λ (tree : Tree). outcome_walk lengths (commit_of lengths s path tree (fault_of lengths s path))) (row_leaf (λ tree. tree) w.front s.names)
    ∙ ap (λ (f : Option MachineFault). outcome_walk lengths (commit_of lengths s path (rest_of s.names w.front) f)) c.no_fault
    ∙ sym c.same
