-- A window's run by units agrees with the run in which the window costs nothing.
use Rattle.std.proofs.Common.{ℕ, zero, suc, ◌≤◌, [], ◌∷◌, Option, Some, None, refl, sym, subst, arith}
use Rattle.std.specs.Prelude.{Bool, true, false, if◌then◌else◌}
use Rattle.pc_word.specs.declared.item.Item.{Item}
use Rattle.pc_word.specs.declared.item.MachineFault.{MachineFault}
use Rattle.pc_word.specs.Word.{holds}
use Rattle.pc_word.specs.Run.{Seen, Answers, Agree, after_printing, seen_of, run_from}
use Rattle.pc_word.proofs.Runs.{Answers-after, Answers-equal, run_from-answers}
use Rattle.pc_word.specs.State.{State}
use Rattle.pc_word.specs.Items.{operand_value}
use Rattle.pc_word.specs.Commit.{prints_of, fault_of}
use Rattle.pc_table.specs.Table.{Table, Next}
use Rattle.pc_word.specs.Row.{commit_of}
use Rattle.pc_table.specs.RegionRun.{lead_on, place_at, region_step, region_run}
use Rattle.pc_window.specs.Tree.{Tree, Pending, Undecided, Exit, Stop_exit, Trap_exit, home_state}
use Rattle.pc_window.specs.Walk.{Walked, Leaves, Finishes, done_first, after_item, walk}
use Rattle.pc_window.specs.WindowRun.{enter, window_step, tree_run, follow, free_run, seen_first, seen_side}
use Rattle.pc_window.proofs.Grafts.{follow-after}
use Rattle.pc_window.proofs.Paces.{answer_of_answer}
use Rattle.pc_window.proofs.Units.{beyond_is_region, led, entered}

follow-grows : (table : Table) (w : Walked) (n m : ℕ) → n ≤ m → Answers (follow table w n) (follow table w m) (follow table w n).end
follow-grows table (Leaves printed region s) n m le =
    Answers-after printed (region_run table (Next region) s n) (region_run table (Next region) s m) (region_run table (Next region) s n).end
    (run_from-answers (region_step table) n m (place_at table (Next region) s) le)
follow-grows table (Finishes printed end) n m le = (refl, refl)

module _ (table : Table) where
  item_forth : (item : Item) (s : State) (w : Walked) (f : Option MachineFault) (x : Seen) (n : ℕ) → Answers x (follow table w n) x.end
      → Answers (seen_first f (prints_of s (item ∷ [])) x) (follow table (done_first f (prints_of s (item ∷ [])) w) (suc n)) (seen_first f (prints_of s (item ∷ [])) x).end
  item_forth item s w (Some fault) x n h = (refl, refl)
  item_forth item s w None x n h =
      subst (λ (y : Seen). Answers (after_printing (prints_of s (item ∷ [])) x) y x.end) (sym (follow-after table (prints_of s (item ∷ [])) w (suc n)))
      (Answers-after (prints_of s (item ∷ [])) x (follow table w (suc n)) x.end (answer_of_answer x (follow table w n) (follow table w (suc n)) h (follow-grows table w n (suc n) (omega arith))))

  test_forth : (b : Bool) (x y : Seen) (w v : Walked) (n : ℕ) → Answers x (follow table w n) x.end → Answers y (follow table v n) y.end
      → Answers (seen_side b x y) (follow table (if b then w else v) (suc n)) (seen_side b x y).end
  test_forth true x y w v n p q = answer_of_answer x (follow table w n) (follow table w (suc n)) p (follow-grows table w n (suc n) (omega arith))
  test_forth false x y w v n p q = answer_of_answer y (follow table v n) (follow table v (suc n)) q (follow-grows table v n (suc n) (omega arith))

  forth : (tree : Tree) (s : State) (n : ℕ) → Answers (tree_run table tree s n) (free_run table tree s n) (tree_run table tree s n).end
  forth (Pending tag origin item rest) s zero = ((free_run table (Pending tag origin item rest) s 0).printed, refl)
  forth (Pending tag origin item rest) s (suc n) =
      subst (λ (x : Seen). Answers x (free_run table (Pending tag origin item rest) s (suc n)) x.end) (sym (led table n item rest s (fault_of table.arrays s (item ∷ []))))
      (item_forth item s (walk table.arrays rest (after_item table.arrays item s)) (fault_of table.arrays s (item ∷ []))
      (tree_run table rest (after_item table.arrays item s) n) n (forth rest (after_item table.arrays item s) n))
  forth (Undecided tag origin on on_yes on_no) s zero = ((free_run table (Undecided tag origin on on_yes on_no) s 0).printed, refl)
  forth (Undecided tag origin on on_yes on_no) s (suc n) =
      subst (λ (x : Seen). Answers x (free_run table (Undecided tag origin on on_yes on_no) s (suc n)) x.end) (sym (entered table n (holds (operand_value s.names on)) on_yes on_no s))
      (test_forth (holds (operand_value s.names on)) (tree_run table on_yes s n) (tree_run table on_no s n) (walk table.arrays on_yes s) (walk table.arrays on_no s) n
      (forth on_yes s n) (forth on_no s n))
  forth (Exit region tag homes) s n = Answers-equal (tree_run table (Exit region tag homes) s n) (free_run table (Exit region tag homes) s n)
      (beyond_is_region table n (place_at table (Next region) (home_state s homes)))
  forth Stop_exit s zero = ([], refl)
  forth Stop_exit s (suc n) = (refl, refl)
  forth (Trap_exit kind line) s zero = ([], refl)
  forth (Trap_exit kind line) s (suc n) = (refl, refl)

  item_back : (item : Item) (rest : Tree) (s : State) (w : Walked) (f : Option MachineFault) (n : ℕ)
      → (m : ℕ) × Answers (follow table w n) (tree_run table rest (after_item table.arrays item s) m) (follow table w n).end
      → (m : ℕ) × Answers (follow table (done_first f (prints_of s (item ∷ [])) w) n)
      (seen_of (lead_on (commit_of table.arrays s (item ∷ []) rest f) (enter table)) (run_from (window_step table) m)) (follow table (done_first f (prints_of s (item ∷ [])) w) n).end
  item_back item rest s w (Some fault) n h = (0, (refl, refl))
  item_back item rest s w None n h =
      let t = after_item table.arrays item s in (
        h.0,
        subst (λ (x : Seen). Answers x (after_printing (prints_of s (item ∷ [])) (tree_run table rest t h.0)) x.end) (sym (follow-after table (prints_of s (item ∷ [])) w n))
            (Answers-after (prints_of s (item ∷ [])) (follow table w n) (tree_run table rest t h.0) (follow table w n).end h.1),
      )

  test_back : (b : Bool) (on_yes on_no : Tree) (s : State) (n : ℕ) → (m : ℕ) × Answers (free_run table on_yes s n) (tree_run table on_yes s m) (free_run table on_yes s n).end
      → (m : ℕ) × Answers (free_run table on_no s n) (tree_run table on_no s m) (free_run table on_no s n).end
      → (m : ℕ) × Answers (follow table (if b then walk table.arrays on_yes s else walk table.arrays on_no s) n)
      (run_from (window_step table) m (enter table (if b then on_yes else on_no) s)) (follow table (if b then walk table.arrays on_yes s else walk table.arrays on_no s) n).end
  test_back true on_yes on_no s n p q = p
  test_back false on_yes on_no s n p q = q

  back : (tree : Tree) (s : State) (n : ℕ) → (m : ℕ) × Answers (free_run table tree s n) (tree_run table tree s m) (free_run table tree s n).end
  back (Pending tag origin item rest) s n =
      let m = item_back item rest s (walk table.arrays rest (after_item table.arrays item s)) (fault_of table.arrays s (item ∷ [])) n (back rest (after_item table.arrays item s) n) in
      (suc m.0, m.1)
  back (Undecided tag origin on on_yes on_no) s n =
      let m = test_back (holds (operand_value s.names on)) on_yes on_no s n (back on_yes s n) (back on_no s n) in
      (suc m.0, m.1)
  back (Exit region tag homes) s n = (
    n,
    Answers-equal (free_run table (Exit region tag homes) s n) (tree_run table (Exit region tag homes) s n)
        (sym (beyond_is_region table n (place_at table (Next region) (home_state s homes)))),
  )
  back Stop_exit s n = (1, (refl, refl))
  back (Trap_exit kind line) s n = (1, (refl, refl))

  pub free_agrees : (tree : Tree) (s : State) → Agree (tree_run table tree s) (free_run table tree s)
  free_agrees tree s = record { forth = λ n. (n, forth tree s n); back = λ n. back tree s n }
