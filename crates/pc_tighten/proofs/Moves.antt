-- A move keeps what a code does, and its pace.
use Rattle.std.proofs.Common.{◌≡◌, ℕ, ◌+◌, Bool, true, false, cond, List, [], ◌∷◌, ◌++◌, Option}
use Rattle.std.proofs.Common.{Some, None, refl, sym, ◌∙◌, ap, subst, ◌⊎◌, inl, inr, append-nil, arith}
use Rattle.std.specs.Prelude.{ℤ, ◌≢◌, ◌&&◌, ◌||◌, slice_get, slice_set}
use Rattle.std.specs.List.{AllByRecursion, list_any, count_by}
use Rattle.std.proofs.lemmas.Bool.Decides.{nat_tests}
use Rattle.pc_word.specs.declared.item.Item.{Item}
use Rattle.pc_word.specs.declared.item.Operand.{Operand}
use Rattle.pc_word.specs.declared.item.End.TheVariants.{Ended}
use Rattle.pc_word.specs.declared.item.MachineFault.{MachineFault}
use Rattle.pc_word.specs.Run.{Answers, Agree, Step, Goes, Stops, seen_of, run_from}
use Rattle.pc_machine.specs.declared.tree.Leaf.{Leaf}
use Rattle.pc_machine.specs.declared.tree.Leaf.TheVariants.{Goto, Stop, Trap}
use Rattle.pc_machine.specs.MachineCode.{CodeRow, RowCode, is_goto}
use Rattle.pc_word.specs.Row.{Then, path_of, leaf_of, commit_of, items_of, tests_of, leaves_of}
use Rattle.pc_word.specs.State.{State}
use Rattle.pc_word.specs.Items.{dest_of, is_effect}
use Rattle.pc_word.specs.Commit.{prints_of, fault_of, state_after}
use Rattle.pc_machine.specs.MachineRun.{Cycle, follow_leaf, after_row, run_row, machine_step, machine_start, machine_run}
use Rattle.pc_machine.specs.WellFormed.{IsPath, WellFormed}
use Rattle.pc_word.proofs.Lists.{all_front, all_back, all_both, all_imply, count_more}
use Rattle.pc_machine.proofs.Paths.{items_taken, taken_is_path}
use Rattle.pc_tighten.specs.Compact.{is_dest, reads_dest, hangs_on, comes_after, is_awaited_by, stores_under, is_loaded_by, is_full, stays, paths_to}
use Rattle.pc_tighten.specs.Moves.{below, with_item, moved, MayMove}
use Rattle.pc_tighten.proofs.Lists.{or_left, or_right, and_false, none_of, nat_eq-sound}
use Rattle.pc_tighten.proofs.Apart.{IsFaultless, faultless, no_fault}
use Rattle.pc_tighten.proofs.Commits.{MayEnd, MayBegin, last-prints, last-state, last-faultless, first-prints, first-state, one-faultless, rest-faultless}
use Rattle.pc_tighten.proofs.Rows.{below-path, below-leaf, with_item-leaf, with_item-path, with_item-other_path, path_taken_to, some_path_to, other_leaf, same_path, same_leaf, set_here}
use Rattle.pc_tighten.proofs.Rows.{set_elsewhere, other_dests, other_effects}
use Rattle.pc_tighten.proofs.Ahead.{NeverFaultsFrom, next_never_faults, StepsAhead, keeps_pace, Agree-ahead}

-- ---- a cycle without fault

abbrev cycle : ℕ → State → Cycle
cycle row state = record { row = row; state = state }

-- the row of a cycle that never faults commits
commits : (code : RowCode) (here : Cycle) (row : CodeRow) → slice_get code.rows here.row ≡ Some row → fault_of code.arrays here.state (path_of here.state.names row) ≡ None
    → machine_step code here ≡ follow_leaf (prints_of here.state (path_of here.state.names row)) (state_after code.arrays here.state (path_of here.state.names row)) (leaf_of here.state.names row)
commits code here row at none =
    ap (λ r. run_row code.arrays here.state r) at
    ∙ ap (λ f. after_row (commit_of code.arrays here.state (path_of here.state.names row) (leaf_of here.state.names row) f)) none

no_fault_here : (code : RowCode) (here : Cycle) (row : CodeRow) → slice_get code.rows here.row ≡ Some row → NeverFaultsFrom (machine_step code) here
    → fault_of code.arrays here.state (path_of here.state.names row) ≡ None
no_fault_here code here row at never = by_fault (fault_of code.arrays here.state (path_of here.state.names row)) refl
  where
    by_fault : (f : Option MachineFault) → fault_of code.arrays here.state (path_of here.state.names row) ≡ f → fault_of code.arrays here.state (path_of here.state.names row) ≡ None
    by_fault None is = is
    by_fault (Some fault) is = absurd (never 1 fault (ap (λ st. (seen_of st (run_from (machine_step code) 0)).end)
        (ap (λ r. run_row code.arrays here.state r) at
        ∙ ap (λ f. after_row (commit_of code.arrays here.state (path_of here.state.names row) (leaf_of here.state.names row) f)) is)))

commits_along : (code : RowCode) (here : Cycle) (row : CodeRow) (path : List Item) (leaf : Leaf) → slice_get code.rows here.row ≡ Some row
    → path_of here.state.names row ≡ path → leaf_of here.state.names row ≡ leaf → fault_of code.arrays here.state path ≡ None
    → machine_step code here ≡ follow_leaf (prints_of here.state path) (state_after code.arrays here.state path) leaf
commits_along code here row path leaf at p q none =
    commits code here row at (subst (λ (l : List Item). fault_of code.arrays here.state l ≡ None) (sym p) none)
    ∙ ap (λ (l : List Item). follow_leaf (prints_of here.state l) (state_after code.arrays here.state l) (leaf_of here.state.names row)) p
    ∙ ap (λ (l : Leaf). follow_leaf (prints_of here.state path) (state_after code.arrays here.state path) l) q

is_leaf : (t : ℕ) (leaf : Leaf) → is_goto t leaf ≡ true → leaf ≡ Goto t
is_leaf t (Goto row) e = ap Goto (nat_eq-sound row t e)
is_leaf t Stop e = absurd (cc)
is_leaf t (Trap kind line) e = absurd (cc)

pub same_or_apart : (n m : ℕ) → (n ≡ m) ⊎ (n ≢ m)
same_or_apart n m = grind arith

pub once_any : (p : Leaf → Bool) (leaves : List Leaf) → count_by p leaves ≡ 1 → list_any p leaves ≡ true
once_any p [] e = absurd (cc)
once_any p (leaf ∷ leaves) e =
    let more = count_more p leaf leaves in
    (elim (p leaf) as (λ b. count_by p (leaf ∷ leaves) ≡ cond b 1 0 + count_by p leaves → (b || list_any p leaves) ≡ true) [
      | true ↦ λ d. refl
      | false ↦ λ d. once_any p leaves (omega arith)
    ]) more

-- ---- what is known where there is no reason to stay

pub record IsFree (path : List Item) (x : Item) (others : List Item) (tests : List Operand) : Type 0 where
  pub ends : MayEnd path x
  pub used : AllByRecursion (λ y. reads_dest y (dest_of x) ≡ false) others
  pub tested : AllByRecursion (λ on. is_dest on (dest_of x) ≡ false) tests
  pub loaded : AllByRecursion (λ y. is_loaded_by x y ≡ false) others

pub free : (code : RowCode) (above : CodeRow) (path : List Item) (x : Item) (others : List Item) (tests : List Operand)
    → stays code.limits above path x others tests ≡ false → IsFree path x others tests
free code above path x others tests e =
    let tested = list_any (λ on. is_dest on (dest_of x)) tests in
    let awaited = list_any (is_awaited_by x) others in
    let after = list_any (comes_after x) path in
    let two = or_right (is_full code.limits above x) (after || (awaited || tested)) e in
    let three = or_right after (awaited || tested) two in
    let before_none = none_of (comes_after x) path (or_left after (awaited || tested) two) in
    let awaited_none = none_of (is_awaited_by x) others (or_left awaited tested three) in
    let kinds = λ (y : Item). stores_under y x || (is_effect x && is_effect y) in
    record {
      ends = record {
        hangs = all_imply (λ y. comes_after x y ≡ false) (λ y. hangs_on x y ≡ false) path (λ y d. or_left (hangs_on x y) (kinds y) d) before_none;
        arrays = all_imply (λ y. comes_after x y ≡ false) (λ y. stores_under y x ≡ false) path
            (λ y d. or_left (stores_under y x) (is_effect x && is_effect y) (or_right (hangs_on x y) (kinds y) d)) before_none;
        effects = λ is. all_imply (λ y. comes_after x y ≡ false) (λ y. is_effect y ≡ false) path
            (λ y d. and_false (is_effect x) (is_effect y) (or_right (stores_under y x) (is_effect x && is_effect y) (or_right (hangs_on x y) (kinds y) d)) is) before_none;
      };
      used = all_imply (λ y. is_awaited_by x y ≡ false) (λ y. reads_dest y (dest_of x) ≡ false) others
          (λ y d. or_left (reads_dest y (dest_of x)) (is_loaded_by x y) d) awaited_none;
      tested = none_of (λ on. is_dest on (dest_of x)) tests (or_right awaited tested three);
      loaded = all_imply (λ y. is_awaited_by x y ≡ false) (λ y. is_loaded_by x y ≡ false) others
          (λ y d. or_right (reads_dest y (dest_of x)) (is_loaded_by x y) d) awaited_none;
    }

-- ---- the two codes side by side

module _ (code : RowCode) (well : WellFormed code) (m t : ℕ) (above : CodeRow) (xs : List Item) (x : Item) (rest : CodeRow) (may : MayMove code m t above xs x rest) where
  -- after the same number of cycles the second code is in the same row; in row t it has done x before
  abbrev pub HasDone : List ℤ → Cycle → Cycle → Type 0
  HasDone q here there =
      NeverFaultsFrom (machine_step code) here ×
      (((there ≡ here) × (here.row ≢ t) × (q ≡ []))
      ⊎ ((here.row ≡ t) × (there ≡ cycle t (state_after code.arrays here.state (x ∷ []))) × (q ≡ prints_of here.state (x ∷ []))))

  abbrev after : RowCode
  after = moved code m t above xs x rest

  pub frees : AllByRecursion (λ path. IsFree path x (xs ++ items_of rest) (tests_of rest)) (paths_to t above)
  frees = all_imply (λ path. stays code.limits above path x (xs ++ items_of rest) (tests_of rest) ≡ false) (λ path. IsFree path x (xs ++ items_of rest) (tests_of rest)) (paths_to t above)
      (λ path e. free code above path x (xs ++ items_of rest) (tests_of rest) e) may.free

  one_leads : list_any (is_goto t) (leaves_of above) ≡ true
  one_leads = once_any (is_goto t) (leaves_of above) may.pair.only.once

  on_path : (names : ℕ → ℤ) (P : Item → Type 0) → AllByRecursion P (xs ++ items_of rest) → AllByRecursion P (xs ++ path_of names rest)
  on_path names P all = all_both P xs (path_of names rest) (all_front P xs (items_of rest) all) (items_taken names rest P (all_back P xs (items_of rest) all))

  at_m_after : slice_get after.rows m ≡ Some (with_item t x above)
  at_m_after = set_elsewhere t m (below xs rest) (slice_set code.rows m (with_item t x above)) (λ e. may.pair.not_itself (sym e)) ∙ set_here m (with_item t x above) above code.rows may.pair.at_m

  at_t_after : slice_get after.rows t ≡ Some (below xs rest)
  at_t_after = set_here t (below xs rest) (below xs (Then x rest)) (slice_set code.rows m (with_item t x above)) (set_elsewhere m t (with_item t x above) code.rows may.pair.not_itself
      ∙ may.pair.at_t)

  -- both go on alike to a row other than t, or end
  follow_alike : (p out more : List ℤ) (new : State) (leaf : Leaf) → p ++ more ≡ out → is_goto t leaf ≡ false
      → ((next : Cycle) → follow_leaf out new leaf ≡ Goes out next → NeverFaultsFrom (machine_step code) next)
      → StepsAhead HasDone p (follow_leaf out new leaf) (follow_leaf more new leaf)
  follow_alike p out more new (Goto row) e other safe =
      let apart : row ≢ t = grind (arith, nat_tests) in
      ([], e ∙ sym (append-nil out), (more, e), (safe (cycle row new) refl, inl (refl, apart, refl)))
  follow_alike p out more new Stop e other safe = (e, refl)
  follow_alike p out more new (Trap kind line) e other safe = (e, refl)

  safe_next : (here : Cycle) (out : List ℤ) (new : State) (leaf : Leaf) → machine_step code here ≡ follow_leaf out new leaf → NeverFaultsFrom (machine_step code) here
      → (next : Cycle) → follow_leaf out new leaf ≡ Goes out next → NeverFaultsFrom (machine_step code) next
  safe_next here out new leaf is never next goes = next_never_faults (machine_step code) here next out (is ∙ goes) never

  steps_by : (p : List ℤ) (a a' b b' : Step Cycle) → a ≡ a' → b ≡ b' → StepsAhead HasDone p a' b' → StepsAhead HasDone p a b
  steps_by p a a' b b' e d h = subst (λ (y : Step Cycle). StepsAhead HasDone p a y) (sym d) (subst (λ (z : Step Cycle). StepsAhead HasDone p z b') (sym e) h)

  -- a row that is neither m nor t
  other_steps : (here : Cycle) (row : CodeRow) → slice_get code.rows here.row ≡ Some row → slice_get after.rows here.row ≡ Some row → list_any (is_goto t) (leaves_of row) ≡ false
      → NeverFaultsFrom (machine_step code) here → StepsAhead HasDone [] (machine_step code here) (machine_step after here)
  other_steps here row at at_after apart never =
      let path = path_of here.state.names row in
      let leaf = leaf_of here.state.names row in
      let none = no_fault_here code here row at never in
      let a = commits code here row at none in
      let b = commits after here row at_after none in
      let out = prints_of here.state path in
      let new = state_after code.arrays here.state path in
      steps_by [] (machine_step code here) (follow_leaf out new leaf) (machine_step after here) (follow_leaf out new leaf) a b
      (follow_alike [] out out new leaf refl (other_leaf here.state.names t row apart) (safe_next here out new leaf a never))

  -- no row: both end
  no_row_steps : (here : Cycle) → slice_get code.rows here.row ≡ None → slice_get after.rows here.row ≡ None → StepsAhead HasDone [] (machine_step code here) (machine_step after here)
  no_row_steps here none none_after =
      steps_by [] (machine_step code here) (Stops [] Ended) (machine_step after here) (Stops [] Ended) (ap (λ r. run_row code.arrays here.state r) none) (ap
      (λ r. run_row code.arrays here.state r) none_after) (refl, refl)

  -- what the row t says of x
  some_free : (path : List Item) × IsFree path x (xs ++ items_of rest) (tests_of rest)
  some_free = some_path_to t above (λ path. IsFree path x (xs ++ items_of rest) (tests_of rest)) frees one_leads

  -- in row t
  begins : (names : ℕ → ℤ) → MayBegin xs x (path_of names rest)
  begins names =
      let f = some_free.1 in
      let is = subst (λ (l : List Item). IsPath l) (below-path names xs (Then x rest)) (taken_is_path code well names t (below xs (Then x rest)) may.pair.at_t) in
      record {
        used = on_path names (λ y. reads_dest y (dest_of x) ≡ false) f.used;
        loaded = on_path names (λ y. is_loaded_by x y ≡ false) f.loaded;
        dests = other_dests xs x (path_of names rest) is.writes_once;
        effects = other_effects xs x (path_of names rest) is.one_effect;
      }

  under_sound : (s : State) → NeverFaultsFrom (machine_step code) (cycle t s) → IsFaultless code.arrays s (xs ++ (x ∷ path_of s.names rest))
  under_sound s never =
      faultless code.arrays s (xs ++ (x ∷ path_of s.names rest)) (subst (λ (l : List Item). fault_of code.arrays s l ≡ None) (below-path s.names xs (Then x rest))
      (no_fault_here code (cycle t s) (below xs (Then x rest)) may.pair.at_t never))

  under_steps : (s : State) → NeverFaultsFrom (machine_step code) (cycle t s)
      → StepsAhead HasDone (prints_of s (x ∷ [])) (machine_step code (cycle t s)) (machine_step after (cycle t (state_after code.arrays s (x ∷ []))))
  under_steps s never =
      let ys = path_of s.names rest in
      let leaf = leaf_of s.names rest in
      let L = code.arrays in
      let early = state_after L s (x ∷ []) in
      let tested = some_free.1.tested in
      let sound = under_sound s never in
      let a = commits_along code (cycle t s) (below xs (Then x rest)) (xs ++ (x ∷ ys)) leaf may.pair.at_t (below-path s.names xs (Then x rest)) (below-leaf s.names xs (Then x rest))
      (no_fault L s (xs ++ (x ∷ ys)) sound) in
      let b = commits_along after (cycle t early) (below xs rest) (xs ++ ys) leaf at_t_after
      (below-path early.names xs rest ∙ ap (λ (l : List Item). xs ++ l) (same_path L s x rest tested))
      (below-leaf early.names xs rest ∙ same_leaf L s x rest tested)
      (no_fault L early (xs ++ ys) (rest-faultless L s xs x ys (begins s.names) sound)) in
      let out = prints_of s (xs ++ (x ∷ ys)) in
      let more = prints_of early (xs ++ ys) in
      let new = state_after L s (xs ++ (x ∷ ys)) in
      let same = ap (λ (u : State). follow_leaf more u leaf) (first-state L s xs x ys (begins s.names) sound) in
      let other : is_goto t leaf ≡ false = ap (λ l. is_goto t l) (sym (below-leaf s.names xs (Then x rest)))
      ∙ other_leaf s.names t (below xs (Then x rest)) (may.pair.only.alone t (below xs (Then x rest)) may.pair.at_t may.pair.not_itself) in
      steps_by (prints_of s (x ∷ [])) (machine_step code (cycle t s)) (follow_leaf out new leaf) (machine_step after (cycle t early)) (follow_leaf more new leaf) a (b ∙ same)
      (follow_alike (prints_of s (x ∷ [])) out more new leaf (first-prints L s xs x ys (begins s.names)) other (safe_next (cycle t s) out new leaf a never))

  -- in row m
  above_steps : (s : State) → NeverFaultsFrom (machine_step code) (cycle m s) → StepsAhead HasDone [] (machine_step code (cycle m s)) (machine_step after (cycle m s))
  above_steps s never =
      let L = code.arrays in
      let path = path_of s.names above in
      let leaf = leaf_of s.names above in
      let none = no_fault_here code (cycle m s) above may.pair.at_m never in
      let a = commits code (cycle m s) above may.pair.at_m none in
      let out = prints_of s path in
      let mid = state_after L s path in
      elim (is_goto t leaf) as (λ b. is_goto t leaf ≡ b → StepsAhead HasDone [] (machine_step code (cycle m s)) (machine_step after (cycle m s))) [
        | true ↦ λ leads.
            let is = is_leaf t leaf leads in
            let a' = a ∙ ap (λ (l : Leaf). follow_leaf out mid l) is in
            let never' = next_never_faults (machine_step code) (cycle m s) (cycle t mid) out a' never in
            let sound = under_sound mid never' in
            let one = one-faultless L mid xs x (path_of mid.names rest) (begins mid.names) sound in
            let ends = (path_taken_to s.names t above (λ p. IsFree p x (xs ++ items_of rest) (tests_of rest)) frees leads).ends in
            let b = commits_along after (cycle m s) (with_item t x above) (path ++ (x ∷ [])) (Goto t) at_m_after (with_item-path s.names t x above leads)
            (with_item-leaf s.names t x above ∙ is)
            (no_fault L s (path ++ (x ∷ [])) (last-faultless L s path x ends (faultless L s path none) one)) in
            let d : machine_step after (cycle m s) ≡ Goes (out ++ prints_of mid (x ∷ [])) (cycle t (state_after L mid (x ∷ []))) =
            b ∙ ap (λ (l : List ℤ). follow_leaf l (state_after L s (path ++ (x ∷ []))) (Goto t)) (last-prints L s path x ends)
            ∙ ap (λ (u : State). follow_leaf (out ++ prints_of mid (x ∷ [])) u (Goto t)) (last-state L s path x ends) in
            steps_by [] (machine_step code (cycle m s)) (Goes out (cycle t mid)) (machine_step after (cycle m s)) (Goes (out ++ prints_of mid (x ∷ [])) (cycle t (state_after L mid (x ∷ [])))) a' d
            (prints_of mid (x ∷ []), refl, (out, refl), (never', inr (refl, refl, refl)))
        | false ↦ λ other.
            let b = commits_along after (cycle m s) (with_item t x above) path leaf at_m_after (with_item-other_path s.names t x above other) (with_item-leaf s.names t x above) none in
            steps_by [] (machine_step code (cycle m s)) (follow_leaf out mid leaf) (machine_step after (cycle m s)) (follow_leaf out mid leaf) a b
            (follow_alike [] out out mid leaf refl other (safe_next (cycle m s) out mid leaf a never))
      ] refl

  level_steps : (here : Cycle) → here.row ≢ t → NeverFaultsFrom (machine_step code) here → StepsAhead HasDone [] (machine_step code here) (machine_step after here)
  level_steps here apart never =
      elim (same_or_apart here.row m) [
        | inl same ↦
            let is : cycle m here.state ≡ here = ap (λ (r : ℕ). cycle r here.state) (sym same) in
            subst (λ (c : Cycle). NeverFaultsFrom (machine_step code) c → StepsAhead HasDone [] (machine_step code c) (machine_step after c)) is (above_steps here.state) never
        | inr other ↦
            let still : slice_get after.rows here.row ≡ slice_get code.rows here.row =
            set_elsewhere t here.row (below xs rest) (slice_set code.rows m (with_item t x above)) apart ∙ set_elsewhere m here.row (with_item t x above) code.rows other in
            elim (slice_get code.rows here.row) as (λ r. slice_get code.rows here.row ≡ r → StepsAhead HasDone [] (machine_step code here) (machine_step after here)) [
              | Some row ↦ λ at. other_steps here row at (still ∙ at) (may.pair.only.alone here.row row at other) never
              | None ↦ λ none. no_row_steps here none (still ∙ none)
            ] refl
      ]

  steps_ahead : (q : List ℤ) (here there : Cycle) → HasDone q here there → StepsAhead HasDone q (machine_step code here) (machine_step after there)
  steps_ahead q here there h = elim h.1 [
    | inl level ↦
        subst (λ (c : Cycle). StepsAhead HasDone q (machine_step code here) (machine_step after c)) (sym level.0)
        (subst (λ (p : List ℤ). StepsAhead HasDone p (machine_step code here) (machine_step after here)) (sym level.2) (level_steps here level.1 h.0))
    | inr early ↦
        let is : cycle t here.state ≡ here = ap (λ (r : ℕ). cycle r here.state) (sym early.0) in
        subst (λ (c : Cycle). StepsAhead HasDone q (machine_step code here) (machine_step after c)) (sym early.1)
        (subst (λ (p : List ℤ). StepsAhead HasDone p (machine_step code here) (machine_step after (cycle t (state_after code.arrays here.state (x ∷ []))))) (sym early.2)
        (subst (λ (c : Cycle). NeverFaultsFrom (machine_step code) c → StepsAhead HasDone (prints_of c.state (x ∷ [])) (machine_step code c) (machine_step after (cycle t
        (state_after code.arrays c.state (x ∷ []))))) is (under_steps here.state) h.0))
  ]

  module _ (input : List ℤ) (never : NeverFaultsFrom (machine_step code) (machine_start code input)) where
    starts : HasDone [] (machine_start code input) (machine_start code input)
    starts = (never, inl (refl, (λ e. may.pair.not_entry (sym e)), refl))

    -- the runs agree
    pub move_agrees : Agree (machine_run code input) (machine_run after input)
    move_agrees = Agree-ahead (machine_step code) (machine_step after) HasDone steps_ahead (machine_start code input) (machine_start code input) starts

    -- and after as many cycles the second has shown what the first has
    pub move_keeps_pace : (n : ℕ) → Answers (machine_run code input n) (machine_run after input n) (machine_run code input n).end
    move_keeps_pace n = keeps_pace (machine_step code) (machine_step after) HasDone steps_ahead n [] (machine_start code input) (machine_start code input) starts
