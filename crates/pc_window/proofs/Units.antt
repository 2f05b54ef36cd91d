-- What a window's run by units shows of its walk, and when one front keeps pace with another.
use Rattle.std.proofs.Common.{◌≡◌, ℕ, zero, suc, ◌+◌, ◌-◌, ◌<◌, ◌≤◌, List, [], ◌∷◌, ◌++◌, Option, Some, None, refl, sym, ◌∙◌, ap, subst, arith, append_assoc}
use Rattle.std.specs.Prelude.{◌≢◌, ℤ, Bool, true, false, if◌then◌else◌, nat_lt}
use Rattle.pc_word.specs.declared.item.Item.{Item}
use Rattle.pc_word.specs.declared.item.MachineFault.{MachineFault}
use Rattle.pc_word.specs.declared.item.End.TheVariants.{Fault}
use Rattle.pc_word.specs.Word.{holds}
use Rattle.pc_word.specs.Run.{Seen, Run, Step, Goes, Stops, Begins, Answers, Follows, after_printing, seen_of, run_from, NeverFaults}
use Rattle.pc_word.proofs.Runs.{Begins-refl, Begins-trans, Begins-after, Answers-after, run_from-answers}
use Rattle.pc_word.specs.State.{State}
use Rattle.pc_word.specs.Items.{operand_value}
use Rattle.pc_word.specs.Commit.{prints_of, fault_of}
use Rattle.pc_table.specs.Table.{Table, Next}
use Rattle.pc_table.specs.RegionRun.{Place, lead_on, place_at, region_step, region_run}
use Rattle.pc_word.specs.Row.{commit_of}
use Rattle.pc_window.specs.Tree.{Tree, Pending, Undecided, Exit, Stop_exit, Trap_exit, Front, Issued, Split, Unfinished, whole, home_state}
use Rattle.pc_window.specs.Walk.{Walked, Leaves, Finishes, IsWhole, printing, done_first, after_item, walk}
use Rattle.pc_window.proofs.Shown.{walk_length, behind_length, shown, front_shown}
use Rattle.pc_window.specs.WindowRun.{Beyond, beyond, enter, window_step, tree_run, seen_first, seen_side, front_run}
use Rattle.pc_window.specs.Kept.{KeepsPace}
use Rattle.pc_window.proofs.Rising.{Begins-none}

-- ---- a window that was left

pub beyond_is_region : (table : Table) (n : ℕ) (place : Place) → run_from (window_step table) n (Beyond place) ≡ run_from (region_step table) n place
beyond_is_region table zero place = refl
beyond_is_region table (suc n) place = goes_on (region_step table place) (λ next. beyond_is_region table n next)
  where
    goes_on : (step : Step Place) → ((next : Place) → run_from (window_step table) n (Beyond next) ≡ run_from (region_step table) n next)
        → seen_of (beyond step) (run_from (window_step table) n) ≡ seen_of step (run_from (region_step table) n)
    goes_on (Goes out next) h = ap (λ (x : Seen). after_printing out x) (h next)
    goes_on (Stops out end) h = refl

-- ---- what is left of a walk, k units after its last item or test

abbrev pub counted : Table → Walked → Run
counted table (Leaves printed region s) k = after_printing printed (region_run table (Next region) s k)
counted table (Finishes printed end) zero = record { printed = printed; end = None }
counted table (Finishes printed end) (suc k) = record { printed = printed; end = Some end }

pub counted-after : (table : Table) (out : List ℤ) (w : Walked) (k : ℕ) → after_printing out (counted table w k) ≡ counted table (printing out w) k
counted-after table out (Leaves printed region s) k =
    let seen = region_run table (Next region) s k in
    ap (λ (l : List ℤ). let x : Seen = record { printed = l; end = seen.end } in x) (sym (append_assoc out printed seen.printed))
counted-after table out (Finishes printed end) zero = refl
counted-after table out (Finishes printed end) (suc k) = refl

counted-grows : (table : Table) (w : Walked) (k m : ℕ) → k ≤ m → Answers (counted table w k) (counted table w m) (counted table w k).end
counted-grows table (Leaves printed region s) k m le =
    Answers-after printed (region_run table (Next region) s k) (region_run table (Next region) s m) (region_run table (Next region) s k).end
    (run_from-answers (region_step table) k m (place_at table (Next region) s) le)
counted-grows table (Finishes printed end) zero zero le = Begins-refl printed
counted-grows table (Finishes printed end) zero (suc m) le = Begins-refl printed
counted-grows table (Finishes printed end) (suc k) (suc m) le = (refl, refl)
counted-grows table (Finishes printed end) (suc k) zero le = absurd (let h : suc k ≤ zero = le in omega arith)

-- ---- walks that are no fault

printing_whole : (out : List ℤ) (w : Walked) → IsWhole w → IsWhole (printing out w)
printing_whole out (Leaves printed region s) h = tt
printing_whole out (Finishes printed end) h = h

module _ (table : Table) where
  -- a window whose run never faults has a walk that is no fault
  item_whole : (item : Item) (rest : Tree) (s : State) (f : Option MachineFault)
      → ((n : ℕ) (fault : MachineFault) → (seen_of (lead_on (commit_of table.arrays s (item ∷ []) rest f) (enter table)) (run_from (window_step table) n)).end ≢ Some (Fault fault))
      → (NeverFaults (tree_run table rest (after_item table.arrays item s)) → IsWhole (walk table.arrays rest (after_item table.arrays item s)))
      → IsWhole (done_first f (prints_of s (item ∷ [])) (walk table.arrays rest (after_item table.arrays item s)))
  item_whole item rest s (Some fault) never next = absurd (never 0 fault refl)
  item_whole item rest s None never next = printing_whole (prints_of s (item ∷ [])) (walk table.arrays rest (after_item table.arrays item s)) (next never)

  test_whole : (on_yes on_no : Tree) (s : State) (b : Bool) → NeverFaults (tree_run table (if b then on_yes else on_no) s)
      → (NeverFaults (tree_run table on_yes s) → IsWhole (walk table.arrays on_yes s))
      → (NeverFaults (tree_run table on_no s) → IsWhole (walk table.arrays on_no s)) → IsWhole (if b then walk table.arrays on_yes s else walk table.arrays on_no s)
  test_whole on_yes on_no s true never p q = p never
  test_whole on_yes on_no s false never p q = q never

  pub never_whole : (tree : Tree) (s : State) → NeverFaults (tree_run table tree s) → IsWhole (walk table.arrays tree s)
  never_whole (Pending tag origin item rest) s never =
      item_whole item rest s (fault_of table.arrays s (item ∷ [])) (λ n fault. never (suc n) fault) (never_whole rest (after_item table.arrays item s))
  never_whole (Undecided tag origin on on_yes on_no) s never =
      test_whole on_yes on_no s (holds (operand_value s.names on)) (λ n fault. never (suc n) fault) (never_whole on_yes s) (never_whole on_no s)
  never_whole (Exit region tag homes) s never = tt
  never_whole Stop_exit s never = tt
  never_whole (Trap_exit kind line) s never = tt

  -- ---- early: what the first units show

  item_early : (item : Item) (s : State) (w : Walked) (f : Option MachineFault) (x : Seen) (l : List ℤ) → IsWhole (done_first f (prints_of s (item ∷ [])) w)
      → (IsWhole w → x ≡ record { printed = l; end = None })
      → seen_first f (prints_of s (item ∷ [])) x ≡ record { printed = prints_of s (item ∷ []) ++ l; end = None }
  item_early item s w (Some fault) x l ok next = absurd ok
  item_early item s w None x l ok next = ap (λ (seen : Seen). after_printing (prints_of s (item ∷ [])) seen) (next (whole_printing (prints_of s (item ∷ [])) w ok))
    where
      whole_printing : (out : List ℤ) (w : Walked) → IsWhole (printing out w) → IsWhole w
      whole_printing out (Leaves printed region s) h = tt
      whole_printing out (Finishes printed end) h = h

  -- an item's unit, and n units after it
  pub led : (n : ℕ) (item : Item) (rest : Tree) (s : State) (f : Option MachineFault)
      → seen_of (lead_on (commit_of table.arrays s (item ∷ []) rest f) (enter table)) (run_from (window_step table) n)
      ≡ seen_first f (prints_of s (item ∷ [])) (tree_run table rest (after_item table.arrays item s) n)
  led n item rest s (Some fault) = refl
  led n item rest s None = refl

  pub entered : (n : ℕ) (b : Bool) (on_yes on_no : Tree) (s : State) → run_from (window_step table) n (enter table (if b then on_yes else on_no) s)
      ≡ seen_side b (tree_run table on_yes s n) (tree_run table on_no s n)
  entered n true on_yes on_no s = refl
  entered n false on_yes on_no s = refl

  test_early : (b : Bool) (n : ℕ) (x y : Seen) (xs ys : List ℤ) (w v : Walked) (k m : ℕ) → IsWhole (if b then w else v) → n ≤ (if b then k else m)
      → (IsWhole w → n ≤ k → x ≡ record { printed = xs; end = None }) → (IsWhole v → n ≤ m → y ≡ record { printed = ys; end = None })
      → seen_side b x y ≡ record { printed = if b then xs else ys; end = None }
  test_early true n x y xs ys w v k m ok le p q = p ok le
  test_early false n x y xs ys w v k m ok le p q = q ok le

  pub tree_early : (tree : Tree) (s : State) (n : ℕ) → IsWhole (walk table.arrays tree s) → n ≤ walk_length table.arrays tree s
      → tree_run table tree s n ≡ record { printed = shown table.arrays tree s n; end = None }
  tree_early (Pending tag origin item rest) s zero ok le = refl
  tree_early (Pending tag origin item rest) s (suc n) ok le =
      led n item rest s (fault_of table.arrays s (item ∷ []))
      ∙ item_early item s (walk table.arrays rest (after_item table.arrays item s)) (fault_of table.arrays s (item ∷ []))
      (tree_run table rest (after_item table.arrays item s) n) (shown table.arrays rest (after_item table.arrays item s) n) ok
      (λ ok'. tree_early rest (after_item table.arrays item s) n ok' (omega arith))
  tree_early (Undecided tag origin on on_yes on_no) s zero ok le = refl
  tree_early (Undecided tag origin on on_yes on_no) s (suc n) ok le =
      entered n (holds (operand_value s.names on)) on_yes on_no s
      ∙ test_early (holds (operand_value s.names on)) n (tree_run table on_yes s n) (tree_run table on_no s n) (shown table.arrays on_yes s n) (shown table.arrays on_no s n)
      (walk table.arrays on_yes s) (walk table.arrays on_no s) (walk_length table.arrays on_yes s) (walk_length table.arrays on_no s) ok (omega arith)
      (λ ok' le'. tree_early on_yes s n ok' le') (λ ok' le'. tree_early on_no s n ok' le')
  tree_early (Exit region tag homes) s zero ok le = refl
  tree_early (Exit region tag homes) s (suc n) ok le = absurd (let h : suc n ≤ 0 = le in omega arith)
  tree_early Stop_exit s zero ok le = refl
  tree_early Stop_exit s (suc n) ok le = absurd (let h : suc n ≤ 0 = le in omega arith)
  tree_early (Trap_exit kind line) s zero ok le = refl
  tree_early (Trap_exit kind line) s (suc n) ok le = absurd (let h : suc n ≤ 0 = le in omega arith)

  pub front_early : (front : Front) (s : State) (n : ℕ) → IsWhole (walk table.arrays (whole front) s) → n ≤ behind_length table.arrays front s
      → front_run table front s n ≡ record { printed = front_shown table.arrays front s n; end = None }
  front_early (Issued tag origin item rest) s n ok le =
      item_early item s (walk table.arrays (whole rest) (after_item table.arrays item s)) (fault_of table.arrays s (item ∷ []))
      (front_run table rest (after_item table.arrays item s) n) (front_shown table.arrays rest (after_item table.arrays item s) n) ok
      (λ ok'. front_early rest (after_item table.arrays item s) n ok' le)
  front_early (Split tag origin on p q) s n ok le =
      test_early (holds (operand_value s.names on)) n (front_run table p s n) (front_run table q s n) (front_shown table.arrays p s n) (front_shown table.arrays q s n)
      (walk table.arrays (whole p) s) (walk table.arrays (whole q) s) (behind_length table.arrays p s) (behind_length table.arrays q s) ok le
      (λ ok' le'. front_early p s n ok' le') (λ ok' le'. front_early q s n ok' le')
  front_early (Unfinished rest) s n ok le = tree_early rest s n ok le

  -- ---- late: what comes after the last item or test

  item_late : (item : Item) (s : State) (w : Walked) (f : Option MachineFault) (x : Seen) (k : ℕ) → IsWhole (done_first f (prints_of s (item ∷ [])) w)
      → (IsWhole w → x ≡ counted table w k) → seen_first f (prints_of s (item ∷ [])) x ≡ counted table (done_first f (prints_of s (item ∷ [])) w) k
  item_late item s w (Some fault) x k ok next = absurd ok
  item_late item s w None x k ok next = ap (λ (seen : Seen). after_printing (prints_of s (item ∷ [])) seen) (next (whole_printing (prints_of s (item ∷ [])) w ok))
      ∙ counted-after table (prints_of s (item ∷ [])) w k
    where
      whole_printing : (out : List ℤ) (w : Walked) → IsWhole (printing out w) → IsWhole w
      whole_printing out (Leaves printed region s) h = tt
      whole_printing out (Finishes printed end) h = h

  test_late : (b : Bool) (n : ℕ) (x y : Seen) (w v : Walked) (k m r : ℕ) → IsWhole (if b then w else v) → n ≡ (if b then k else m) + r
      → (IsWhole w → n ≡ k + r → x ≡ counted table w r) → (IsWhole v → n ≡ m + r → y ≡ counted table v r) → seen_side b x y ≡ counted table (if b then w else v) r
  test_late true n x y w v k m r ok e p q = p ok e
  test_late false n x y w v k m r ok e p q = q ok e

  pub tree_late : (tree : Tree) (s : State) (n r : ℕ) → IsWhole (walk table.arrays tree s) → n ≡ walk_length table.arrays tree s + r
      → tree_run table tree s n ≡ counted table (walk table.arrays tree s) r
  tree_late (Pending tag origin item rest) s zero r ok e = absurd (omega arith)
  tree_late (Pending tag origin item rest) s (suc n) r ok e =
      led n item rest s (fault_of table.arrays s (item ∷ []))
      ∙ item_late item s (walk table.arrays rest (after_item table.arrays item s)) (fault_of table.arrays s (item ∷ [])) (tree_run table rest (after_item table.arrays item s) n) r ok
      (λ ok'. tree_late rest (after_item table.arrays item s) n r ok' (omega arith))
  tree_late (Undecided tag origin on on_yes on_no) s zero r ok e = absurd (omega arith)
  tree_late (Undecided tag origin on on_yes on_no) s (suc n) r ok e =
      entered n (holds (operand_value s.names on)) on_yes on_no s
      ∙ test_late (holds (operand_value s.names on)) n (tree_run table on_yes s n) (tree_run table on_no s n) (walk table.arrays on_yes s) (walk table.arrays on_no s)
      (walk_length table.arrays on_yes s) (walk_length table.arrays on_no s) r ok (omega arith)
      (λ ok' e'. tree_late on_yes s n r ok' e') (λ ok' e'. tree_late on_no s n r ok' e')
  tree_late (Exit region tag homes) s n r ok e =
      let same : n ≡ r = omega arith in
      beyond_is_region table n (place_at table (Next region) (home_state s homes)) ∙ ap (λ (m : ℕ). region_run table (Next region) (home_state s homes) m) same
  tree_late Stop_exit s zero zero ok e = refl
  tree_late Stop_exit s (suc n) (suc r) ok e = refl
  tree_late Stop_exit s zero (suc r) ok e = absurd (omega arith)
  tree_late Stop_exit s (suc n) zero ok e = absurd (omega arith)
  tree_late (Trap_exit kind line) s zero zero ok e = refl
  tree_late (Trap_exit kind line) s (suc n) (suc r) ok e = refl
  tree_late (Trap_exit kind line) s zero (suc r) ok e = absurd (omega arith)
  tree_late (Trap_exit kind line) s (suc n) zero ok e = absurd (omega arith)

  pub front_late : (front : Front) (s : State) (n r : ℕ) → IsWhole (walk table.arrays (whole front) s) → n ≡ behind_length table.arrays front s + r
      → front_run table front s n ≡ counted table (walk table.arrays (whole front) s) r
  front_late (Issued tag origin item rest) s n r ok e =
      item_late item s (walk table.arrays (whole rest) (after_item table.arrays item s)) (fault_of table.arrays s (item ∷ [])) (front_run table rest (after_item table.arrays item s) n) r ok
      (λ ok'. front_late rest (after_item table.arrays item s) n r ok' e)
  front_late (Split tag origin on p q) s n r ok e =
      test_late (holds (operand_value s.names on)) n (front_run table p s n) (front_run table q s n) (walk table.arrays (whole p) s) (walk table.arrays (whole q) s)
      (behind_length table.arrays p s) (behind_length table.arrays q s) r ok e
      (λ ok' e'. front_late p s n r ok' e') (λ ok' e'. front_late q s n r ok' e')
  front_late (Unfinished rest) s n r ok e = tree_late rest s n r ok e

  -- ---- what n units show begins with what n items and tests print

  item_shows : (item : Item) (s : State) (w : Walked) (f : Option MachineFault) (x : Seen) (l : List ℤ) → IsWhole (done_first f (prints_of s (item ∷ [])) w)
      → (IsWhole w → Begins l x.printed) → Begins (prints_of s (item ∷ []) ++ l) (seen_first f (prints_of s (item ∷ [])) x).printed
  item_shows item s w (Some fault) x l ok next = absurd ok
  item_shows item s w None x l ok next = Begins-after (prints_of s (item ∷ [])) l x.printed (next (whole_printing (prints_of s (item ∷ [])) w ok))
    where
      whole_printing : (out : List ℤ) (w : Walked) → IsWhole (printing out w) → IsWhole w
      whole_printing out (Leaves printed region s) h = tt
      whole_printing out (Finishes printed end) h = h

  test_shows : (b : Bool) (x y : Seen) (xs ys : List ℤ) (w v : Walked) → IsWhole (if b then w else v) → (IsWhole w → Begins xs x.printed) → (IsWhole v → Begins ys y.printed)
      → Begins (if b then xs else ys) (seen_side b x y).printed
  test_shows true x y xs ys w v ok p q = p ok
  test_shows false x y xs ys w v ok p q = q ok

  tree_shows : (tree : Tree) (s : State) (n : ℕ) → IsWhole (walk table.arrays tree s) → Begins (shown table.arrays tree s n) (tree_run table tree s n).printed
  tree_shows (Pending tag origin item rest) s zero ok = Begins-none _
  tree_shows (Pending tag origin item rest) s (suc n) ok =
      subst (λ (x : Seen). Begins (shown table.arrays (Pending tag origin item rest) s (suc n)) x.printed) (sym (led n item rest s (fault_of table.arrays s (item ∷ []))))
      (item_shows item s (walk table.arrays rest (after_item table.arrays item s)) (fault_of table.arrays s (item ∷ []))
      (tree_run table rest (after_item table.arrays item s) n) (shown table.arrays rest (after_item table.arrays item s) n) ok
      (λ ok'. tree_shows rest (after_item table.arrays item s) n ok'))
  tree_shows (Undecided tag origin on on_yes on_no) s zero ok = Begins-none _
  tree_shows (Undecided tag origin on on_yes on_no) s (suc n) ok =
      subst (λ (x : Seen). Begins (shown table.arrays (Undecided tag origin on on_yes on_no) s (suc n)) x.printed) (sym (entered n (holds (operand_value s.names on)) on_yes on_no s))
      (test_shows (holds (operand_value s.names on)) (tree_run table on_yes s n) (tree_run table on_no s n) (shown table.arrays on_yes s n) (shown table.arrays on_no s n)
      (walk table.arrays on_yes s) (walk table.arrays on_no s) ok (λ ok'. tree_shows on_yes s n ok') (λ ok'. tree_shows on_no s n ok'))
  tree_shows (Exit region tag homes) s n ok = Begins-none _
  tree_shows Stop_exit s n ok = Begins-none _
  tree_shows (Trap_exit kind line) s n ok = Begins-none _

  front_shows : (front : Front) (s : State) (n : ℕ) → IsWhole (walk table.arrays (whole front) s) → Begins (front_shown table.arrays front s n) (front_run table front s n).printed
  front_shows (Issued tag origin item rest) s n ok =
      item_shows item s (walk table.arrays (whole rest) (after_item table.arrays item s)) (fault_of table.arrays s (item ∷ []))
      (front_run table rest (after_item table.arrays item s) n) (front_shown table.arrays rest (after_item table.arrays item s) n) ok
      (λ ok'. front_shows rest (after_item table.arrays item s) n ok')
  front_shows (Split tag origin on p q) s n ok =
      test_shows (holds (operand_value s.names on)) (front_run table p s n) (front_run table q s n) (front_shown table.arrays p s n) (front_shown table.arrays q s n)
      (walk table.arrays (whole p) s) (walk table.arrays (whole q) s) ok (λ ok'. front_shows p s n ok') (λ ok'. front_shows q s n ok')
  front_shows (Unfinished rest) s n ok = tree_shows rest s n ok

  -- ---- pace

  -- a front with the same walk, of which no more is unfinished and nothing is printed later
  pub record NoSlower (f g : Front) (s : State) : Type 0 where
    pub same : walk table.arrays (whole g) s ≡ walk table.arrays (whole f) s
    pub no_longer : behind_length table.arrays g s ≤ behind_length table.arrays f s
    pub no_later : (n : ℕ) → Begins (front_shown table.arrays f s n) (front_shown table.arrays g s n)

  pub NoSlower-pace : (f g : Front) (s : State) → IsWhole (walk table.arrays (whole f) s) → NoSlower f g s → KeepsPace (front_run table f s) (front_run table g s)
  NoSlower-pace f g s ok h n = by_length (nat_lt (behind_length table.arrays f s) n) refl
    where
      ok' : IsWhole (walk table.arrays (whole g) s)
      ok' = subst IsWhole (sym h.same) ok

      is_less : (a b : ℕ) → nat_lt a b ≡ true → a < b
      is_less a b e = grind arith

      is_not : (a b : ℕ) → nat_lt a b ≡ false → b ≤ a
      is_not a b e = grind arith

      by_length : (b : Bool) → nat_lt (behind_length table.arrays f s) n ≡ b → Answers (front_run table f s n) (front_run table g s n) (front_run table f s n).end
      by_length false e =
          subst (λ (x : Seen). Answers x (front_run table g s n) x.end) (sym (front_early f s n ok (is_not (behind_length table.arrays f s) n e)))
          (Begins-trans (front_shown table.arrays f s n) (front_shown table.arrays g s n) (front_run table g s n).printed (h.no_later n) (front_shows g s n ok'))
      by_length true e =
          let lt = is_less (behind_length table.arrays f s) n e in
          let le = h.no_longer in
          let here : front_run table f s n ≡ counted table (walk table.arrays (whole f) s) (n - behind_length table.arrays f s) =
          front_late f s n (n - behind_length table.arrays f s) ok (omega arith) in
          let there : front_run table g s n ≡ counted table (walk table.arrays (whole f) s) (n - behind_length table.arrays g s) =
          front_late g s n (n - behind_length table.arrays g s) ok' (omega arith) ∙ ap (λ (w : Walked). counted table w (n - behind_length table.arrays g s)) h.same in
          subst (λ (x : Seen). Answers x (front_run table g s n) x.end) (sym here)
          (subst (λ (y : Seen). Answers (counted table (walk table.arrays (whole f) s) (n - behind_length table.arrays f s)) y
          (counted table (walk table.arrays (whole f) s) (n - behind_length table.arrays f s)).end) (sym there)
          (counted-grows table (walk table.arrays (whole f) s) (n - behind_length table.arrays f s) (n - behind_length table.arrays g s) (omega arith)))

  -- ---- more units show no less

  pub first_answers : (f : Option MachineFault) (out : List ℤ) (x y : Seen) → Answers x y x.end → Answers (seen_first f out x) (seen_first f out y) (seen_first f out x).end
  first_answers (Some fault) out x y h = (refl, refl)
  first_answers None out x y h = Answers-after out x y x.end h

  pub side_answers : (b : Bool) (x y x' y' : Seen) → Answers x x' x.end → Answers y y' y.end → Answers (seen_side b x y) (seen_side b x' y') (seen_side b x y).end
  side_answers true x y x' y' p q = p
  side_answers false x y x' y' p q = q

  pub front_grows : (front : Front) (s : State) (n m : ℕ) → n ≤ m → Answers (front_run table front s n) (front_run table front s m) (front_run table front s n).end
  front_grows (Issued tag origin item rest) s n m le =
      first_answers (fault_of table.arrays s (item ∷ [])) (prints_of s (item ∷ [])) (front_run table rest (after_item table.arrays item s) n)
      (front_run table rest (after_item table.arrays item s) m) (front_grows rest (after_item table.arrays item s) n m le)
  front_grows (Split tag origin on p q) s n m le =
      side_answers (holds (operand_value s.names on)) (front_run table p s n) (front_run table q s n) (front_run table p s m) (front_run table q s m) (front_grows p s n m le) (front_grows q s n m le)
  front_grows (Unfinished tree) s n m le = run_from-answers (window_step table) n m (enter table tree s) le

  pub NoSlower-back : (f g : Front) (s : State) → IsWhole (walk table.arrays (whole f) s) → NoSlower f g s → Follows (front_run table g s) (front_run table f s)
  NoSlower-back f g s ok h n =
      let k = behind_length table.arrays f s in
      let m = behind_length table.arrays g s in
      let there : front_run table g s (m + n) ≡ front_run table f s (k + n) =
      front_late g s (m + n) n (subst IsWhole (sym h.same) ok) refl ∙ ap (λ (w : Walked). counted table w n) h.same ∙ sym (front_late f s (k + n) n ok refl) in
      (k + n, subst (λ (y : Seen). Answers (front_run table g s n) y (front_run table g s n).end) there (front_grows g s n (m + n) (omega arith)))
