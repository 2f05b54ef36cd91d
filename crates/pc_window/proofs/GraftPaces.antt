-- Unwinding keeps pace: n units of a region's tree with homes in place of variables show what n units of the region show.
use Rattle.std.proofs.Common.{◌≡◌, ℕ, zero, suc, List, [], ◌∷◌, Option, Some, None, refl, sym, ◌∙◌, ap, subst, arith}
use Rattle.std.specs.Prelude.{ℤ, Bool, true, false, if◌then◌else◌}
use Rattle.pc_word.specs.declared.item.Item.{Item}
use Rattle.pc_word.specs.declared.item.Item.TheVariants.{Copy}
use Rattle.pc_word.specs.declared.item.Operand.{Operand}
use Rattle.pc_word.specs.declared.item.Operand.TheVariants.{Name}
use Rattle.pc_word.specs.declared.item.MachineFault.{MachineFault}
use Rattle.pc_word.specs.Word.{holds}
use Rattle.pc_word.specs.Run.{Seen, Answers, after_printing, seen_of, run_from}
use Rattle.pc_word.proofs.Runs.{Answers-after, Answers-equal, run_from-answers}
use Rattle.pc_word.specs.State.{State}
use Rattle.pc_word.specs.Items.{operand_value}
use Rattle.pc_word.specs.Commit.{prints_of, fault_of, state_after}
use Rattle.pc_table.specs.Table.{TableTree, Does, Asks, Next, Stops_here, Traps_here, Table, region_tree, region_live}
use Rattle.pc_word.specs.Row.{commit_of}
use Rattle.pc_table.specs.RegionRun.{lead_on, place_at, region_step, region_run}
use Rattle.pc_table.specs.TableKeeps.{TableKeeps}
use Rattle.pc_window.specs.Tree.{Tree, Pending, home_of, state_at}
use Rattle.pc_window.specs.WindowRun.{enter, window_step, tree_run}
use Rattle.pc_window.specs.Opening.{Supply, changed, with_name, at_home, Brought, Moves_home, Gets_name, Stays_plain, brought, graft_item, homes_at, graft}
use Rattle.pc_table.proofs.Live.{run_same}
use Rattle.pc_window.proofs.Grafts.{HomesBelow, HomesBelow-later, HomesBelow-changed, HomesBelow-new, at_home_below, at_home_value, Does_same, brought_same, after_copy, after_gives, after_plain}
use Rattle.pc_window.proofs.Follows.{home_of-homes_at, graft-extends}
use Rattle.pc_window.proofs.Paces.{answer_of_answer}
use Rattle.pc_window.proofs.Units.{beyond_is_region}
use Rattle.pc_word.proofs.Evaluated.{Alike-fault, Alike-prints}

-- n units of the tree show what n units of the region show
abbrev pub PacedAt : Table → TableTree → State → Tree → State → ℕ → Type 0
PacedAt table tree t below s n = Answers (region_run table tree t n) (tree_run table below s n) (region_run table tree t n).end

unfoldable pub GraftPace : Table → Option ℕ → ℕ → TableTree → Type 0
GraftPace table loop tag tree = (names : Supply) (homes : ℕ → Operand) (s : State) → HomesBelow names.next homes → (n : ℕ)
    → PacedAt table tree (state_at homes s) (graft table loop tag tree names homes).tree s n

module _ (table : Table) (keeps : TableKeeps table) (loop : Option ℕ) (tag : ℕ) where
  by_fault : (item given : Item) (rest : TableTree) (below : Tree) (s t : State) (n : ℕ) (f : Option MachineFault) → prints_of s (given ∷ []) ≡ prints_of t (item ∷ [])
      → PacedAt table rest (state_after table.arrays t (item ∷ [])) below (state_after table.arrays s (given ∷ [])) n
      → Answers (seen_of (lead_on (commit_of table.arrays t (item ∷ []) rest f) (place_at table)) (run_from (region_step table) n))
      (seen_of (lead_on (commit_of table.arrays s (given ∷ []) below f) (enter table)) (run_from (window_step table) n))
      (seen_of (lead_on (commit_of table.arrays t (item ∷ []) rest f) (place_at table)) (run_from (region_step table) n)).end
  by_fault item given rest below s t n (Some fault) prints h = (refl, refl)
  by_fault item given rest below s t n None prints h =
      let x = region_run table rest (state_after table.arrays t (item ∷ [])) n in
      let y = tree_run table below (state_after table.arrays s (given ∷ [])) n in
      subst (λ (p : List ℤ). Answers (after_printing (prints_of t (item ∷ [])) x) (after_printing p y) x.end) (sym prints) (Answers-after (prints_of t (item ∷ [])) x y x.end h)

  paced_item : (origin : ℕ) (item given : Item) (rest : TableTree) (below : Tree) (s t : State)
      → fault_of table.arrays s (given ∷ []) ≡ fault_of table.arrays t (item ∷ []) → prints_of s (given ∷ []) ≡ prints_of t (item ∷ [])
      → ((n : ℕ) → PacedAt table rest (state_after table.arrays t (item ∷ [])) below (state_after table.arrays s (given ∷ [])) n) → (n : ℕ)
      → PacedAt table (Does origin item rest) t (Pending tag origin given below) s n
  paced_item origin item given rest below s t fault prints next zero = ([], refl)
  paced_item origin item given rest below s t fault prints next (suc n) =
      let x = region_run table (Does origin item rest) t (suc n) in
      subst (λ (f : Option MachineFault). Answers x (seen_of (lead_on (commit_of table.arrays s (given ∷ []) below f) (enter table)) (run_from (window_step table) n)) x.end) (sym fault)
      (by_fault item given rest below s t n (fault_of table.arrays t (item ∷ [])) prints (next n))

  -- one unit more shows no less
  one_later : (below : Tree) (s : State) (x : Seen) (n : ℕ) → Answers x (tree_run table below s n) x.end → Answers x (tree_run table below s (suc n)) x.end
  one_later below s x n h = answer_of_answer x (tree_run table below s n) (tree_run table below s (suc n)) h (run_from-answers (window_step table) n (suc n) (enter table below s) (omega arith))

  paced_copy : (origin variable : ℕ) (source : Operand) (rest : TableTree) (names : Supply) (homes : ℕ → Operand) (s : State) → HomesBelow names.next homes → GraftPace table loop tag rest
      → (n : ℕ) → PacedAt table (Does origin (Copy variable source) rest) (state_at homes s) (graft table loop tag rest names (changed homes variable (at_home homes source))).tree s n
  unfolding GraftPace
  paced_copy origin variable source rest names homes s below pace zero = ((tree_run table (graft table loop tag rest names (changed homes variable (at_home homes source))).tree s 0).printed, refl)
  paced_copy origin variable source rest names homes s below pace (suc n) =
      let homes' = changed homes variable (at_home homes source) in
      let tree = (graft table loop tag rest names homes').tree in
      let h = pace names homes' s (HomesBelow-changed names.next homes variable (at_home homes source) (at_home_below names.next homes source below) below) n in
      subst (λ (t : State). Answers (region_run table rest t n) (tree_run table tree s (suc n)) (region_run table rest t n).end) (after_copy table.arrays homes s variable source)
      (one_later tree s (region_run table rest (state_at homes' s) n) n h)

  paced_brought : (origin : ℕ) (item : Item) (rest : TableTree) (names : Supply) (homes : ℕ → Operand) (s : State) → HomesBelow names.next homes
      → (b : Brought) → Does_same table.arrays names homes s item b → GraftPace table loop tag rest
      → (n : ℕ) → PacedAt table (Does origin item rest) (state_at homes s) (graft_item tag origin b names homes (graft table loop tag rest)).tree s n
  unfolding GraftPace
  paced_brought origin item rest names homes s below (Moves_home variable from) g pace n =
      subst (λ (i : Item). PacedAt table (Does origin i rest) (state_at homes s) (graft table loop tag rest names (changed homes variable from)).tree s n) (sym g.item_is)
      (subst (λ (o : Operand). PacedAt table (Does origin (Copy variable g.source) rest) (state_at homes s) (graft table loop tag rest names (changed homes variable o)).tree s n) (sym g.from_is)
      (paced_copy origin variable g.source rest names homes s below pace n))
  paced_brought origin item rest names homes s below (Gets_name variable given form) g pace n =
      let names' = with_name names form in
      let homes' = changed homes variable (Name names.next) in
      let s' = state_after table.arrays s (given ∷ []) in
      let tree = (graft table loop tag rest names' homes').tree in
      paced_item origin item given rest tree s (state_at homes s)
      (Alike-fault table.arrays s given (state_at homes s) item g.alike) (Alike-prints s given (state_at homes s) item g.alike)
      (λ m. subst (λ (t : State). PacedAt table rest t tree s' m) (after_gives table.arrays names homes s item variable given below g)
      (pace names' homes' s' (HomesBelow-new names form homes variable below) m)) n
  paced_brought origin item rest names homes s below (Stays_plain given) g pace n =
      let s' = state_after table.arrays s (given ∷ []) in
      let tree = (graft table loop tag rest names homes).tree in
      paced_item origin item given rest tree s (state_at homes s)
      (Alike-fault table.arrays s given (state_at homes s) item g.alike) (Alike-prints s given (state_at homes s) item g.alike)
      (λ m. subst (λ (t : State). PacedAt table rest t tree s' m) (after_plain table.arrays names homes s item given g) (pace names homes s' below m)) n

  by_test : (b c : Bool) (one other : TableTree) (one_below other_below : Tree) (s t : State) (n : ℕ) → c ≡ b → PacedAt table one t one_below s n → PacedAt table other t other_below s n
      → Answers (run_from (region_step table) n (place_at table (if b then one else other) t)) (run_from (window_step table) n (enter table (if c then one_below else other_below) s))
      (run_from (region_step table) n (place_at table (if b then one else other) t)).end
  by_test true true one other one_below other_below s t n e p q = p
  by_test false false one other one_below other_below s t n e p q = q
  by_test true false one other one_below other_below s t n e p q = absurd (cc)
  by_test false true one other one_below other_below s t n e p q = absurd (cc)

  pub graft_pace : (tree : TableTree) → GraftPace table loop tag tree
  unfolding GraftPace
  graft_pace (Does origin item rest) names homes s below n =
      paced_brought origin item rest names homes s below (brought names homes item) (brought_same table.arrays names homes s item) (graft_pace rest) n
  graft_pace (Asks origin on on_yes on_no) names homes s below zero = ([], refl)
  graft_pace (Asks origin on on_yes on_no) names homes s below (suc n) =
      let after = (graft table loop tag on_yes names homes).names in
      by_test (holds (operand_value (state_at homes s).names on)) (holds (operand_value s.names (at_home homes on))) on_yes on_no
      (graft table loop tag on_yes names homes).tree (graft table loop tag on_no after homes).tree s (state_at homes s) n
      (ap holds (at_home_value homes s on)) (graft_pace on_yes names homes s below n)
      (graft_pace on_no after homes s (HomesBelow-later names.next after.next homes (graft-extends table loop tag on_yes names homes).next below) n)
  graft_pace (Next region) names homes s below n =
      let stub = state_at (home_of (homes_at homes (region_live table region))) s in
      Answers-equal (region_run table (Next region) (state_at homes s) n) (run_from (window_step table) n (enter table (graft table loop tag (Next region) names homes).tree s))
      (sym (beyond_is_region table n (place_at table (Next region) stub)
      ∙ run_same table keeps n (region_tree table region) stub (state_at homes s)
      (λ x p. ap (operand_value s.names) (home_of-homes_at homes (region_live table region) x (keeps.live region x p))) refl))
  graft_pace Stops_here names homes s below zero = ([], refl)
  graft_pace Stops_here names homes s below (suc n) = (refl, refl)
  graft_pace (Traps_here kind line) names homes s below zero = ([], refl)
  graft_pace (Traps_here kind line) names homes s below (suc n) = (refl, refl)

  -- the same from the region by its number
  pub region_pace : (region : ℕ) (names : Supply) (homes : ℕ → Operand) (s : State) → HomesBelow names.next homes → (n : ℕ)
      → PacedAt table (Next region) (state_at homes s) (graft table loop tag (region_tree table region) names homes).tree s n
  unfolding GraftPace
  region_pace region names homes s below n =
      let tree = (graft table loop tag (region_tree table region) names homes).tree in
      subst (λ (r : TableTree). Answers (run_from (region_step table) n (record { tree = r; state = state_at homes s })) (tree_run table tree s n)
      (run_from (region_step table) n (record { tree = r; state = state_at homes s })).end)
      (keeps.begins region) (graft_pace (region_tree table region) names homes s below n)
