-- The rows of a plain region show what its tree shows.
use Rattle.std.proofs.Common.{◌≡◌, ℕ, zero, suc, ◌+◌, ◌<◌, List, [], ◌∷◌, Option, Some, None, refl, sym, ◌∙◌, ap, subst, arith}
use Rattle.std.specs.Prelude.{Bool, true, false, if◌then◌else◌, slice_get}
use Rattle.pc_word.specs.declared.item.Item.{Item}
use Rattle.pc_word.specs.declared.item.Operand.{Operand}
use Rattle.pc_word.specs.declared.item.Limits.{Limits}
use Rattle.pc_word.specs.declared.item.MachineFault.{MachineFault}
use Rattle.pc_word.specs.declared.item.TrapKind.{TrapKind}
use Rattle.pc_word.specs.Word.{holds}
use Rattle.pc_word.specs.State.{State}
use Rattle.pc_word.specs.Items.{operand_value}
use Rattle.pc_word.specs.Commit.{fault_of, prints_of, state_after}
use Rattle.pc_word.specs.Row.{Then, Either, At_leaf, commit_of}
use Rattle.pc_word.specs.Run.{Seen, Answers, after_printing, seen_of, run_from, NeverFaults}
use Rattle.pc_word.proofs.Runs.{Answers-after}
use Rattle.pc_table.specs.Table.{TableTree, Does, Asks, Next, Stops_here, Traps_here, Table, region_tree}
use Rattle.pc_table.specs.RegionRun.{arrive, place_at, lead_on, region_step, region_run}
use Rattle.pc_table.specs.TableKeeps.{TableKeeps, units, By_one, untested}
use Rattle.pc_machine.specs.declared.tree.Leaf.{Leaf}
use Rattle.pc_machine.specs.declared.tree.Leaf.TheVariants.{Goto, Stop, Trap}
use Rattle.pc_machine.specs.MachineCode.{CodeRow}
use Rattle.pc_machine.specs.MachineRun.{after_row, machine_step}
use Rattle.pc_emit.specs.Emitted.{Emission, root_leaf, LeadsBehind, to_item, to_test, to_region, to_end, to_trap}
use Rattle.pc_emit.specs.Emitted.{TreeStands, item_row, test_row}
use Rattle.pc_emit.proofs.Leading.{leaf_run, leaf_seen, row_seen}
use Rattle.pc_emit.proofs.PackedRuns.{code, table, ForthIn, BackAt}

-- a tree that is no name of a region
abbrev pub IsRoot : TableTree → Type 0
IsRoot (Does origin item rest) = Unit {0}
IsRoot (Asks origin on on_yes on_no) = Unit {0}
IsRoot (Next region) = ⊥
IsRoot Stops_here = Unit {0}
IsRoot (Traps_here kind line) = Unit {0}

-- as no region's tree is
pub roots : (table : Table) → TableKeeps table → (region : ℕ) → IsRoot (region_tree table region)
roots table keeps region = by_tree (region_tree table region) refl
  where
    by_tree : (tree : TableTree) → region_tree table region ≡ tree → IsRoot tree
    by_tree (Does origin item rest) is = tt
    by_tree (Asks origin on on_yes on_no) is = tt
    by_tree (Next next) is =
        let begins = keeps.begins region in
        let again : region_tree table next ≡ Next next = by_arrival is begins in
        absurd (keeps.tested next (By_one (ap untested again)))
      where
        by_arrival : region_tree table region ≡ Next next → arrive table (region_tree table region) ≡ region_tree table region → region_tree table next ≡ Next next
        by_arrival is begins = sym (ap (arrive table) is) ∙ begins ∙ is
    by_tree Stops_here is = tt
    by_tree (Traps_here kind line) is = tt

module _ (e : Emission) (keeps : TableKeeps e.table) (limits : Limits) (rows : List CodeRow) where
  abbrev pub run : TableTree → State → ℕ → Seen
  run tree m n = region_run e.table tree m n

  abbrev pub shown : Leaf → State → ℕ → Seen
  shown leaf m n = leaf_run (code e keeps limits rows) leaf m n

  -- an item's row does what the item does
  item_shown : (row origin : ℕ) (item : Item) (rest : TableTree) (leaf : Leaf) (m : State) (n : ℕ) → slice_get rows row ≡ Some (Then item (At_leaf leaf))
      → shown (Goto row) m (suc n)
      ≡ seen_of (after_row (commit_of e.table.arrays m (item ∷ []) leaf (fault_of e.table.arrays m (item ∷ [])))) (run_from (machine_step (code e keeps limits rows)) n)
  item_shown row origin item rest leaf m n there = row_seen (code e keeps limits rows) row (Then item (At_leaf leaf)) m n there

  never_later : (origin : ℕ) (item : Item) (rest : TableTree) (m : State) → NeverFaults (run (Does origin item rest) m)
      → fault_of e.table.arrays m (item ∷ []) ≡ None → NeverFaults (run rest (state_after e.table.arrays m (item ∷ [])))
  never_later origin item rest m never none n fault is =
      never (suc n) fault (ap (λ (f : Option MachineFault). (seen_of (lead_on (commit_of e.table.arrays m (item ∷ []) rest f) (place_at e.table)) (run_from (region_step e.table) n)).end) none ∙ is)

  module _ (origin : ℕ) (item : Item) (rest : TableTree) (leaf : Leaf) (m : State) where
    abbrev new : State
    new = state_after e.table.arrays m (item ∷ [])

    item_forth : (n : ℕ) (f : Option MachineFault) → fault_of e.table.arrays m (item ∷ []) ≡ f
        → (f ≡ None → (k : ℕ) × Answers (shown leaf new n) (run rest new k) (shown leaf new n).end)
        → (k : ℕ) × Answers (seen_of (after_row (commit_of e.table.arrays m (item ∷ []) leaf f)) (run_from (machine_step (code e keeps limits rows)) n))
        (seen_of (lead_on (commit_of e.table.arrays m (item ∷ []) rest f) (place_at e.table)) (run_from (region_step e.table) k))
        (seen_of (after_row (commit_of e.table.arrays m (item ∷ []) leaf f)) (run_from (machine_step (code e keeps limits rows)) n)).end
    item_forth n (Some fault) is next = (0, (refl, refl))
    item_forth n None is next =
        let k = next refl in
        let out = prints_of m (item ∷ []) in (
          k.0,
          subst (λ (x : Seen). Answers x (after_printing out (run rest new k.0)) x.end) (sym (leaf_seen (code e keeps limits rows) out new leaf n))
              (Answers-after out (shown leaf new n) (run rest new k.0) (shown leaf new n).end k.1),
        )

    item_back : (n : ℕ) (f : Option MachineFault) → fault_of e.table.arrays m (item ∷ []) ≡ f
        → (f ≡ None → (k : ℕ) × Answers (run rest new n) (shown leaf new k) (run rest new n).end)
        → (k : ℕ) × Answers (seen_of (lead_on (commit_of e.table.arrays m (item ∷ []) rest f) (place_at e.table)) (run_from (region_step e.table) n))
        (seen_of (after_row (commit_of e.table.arrays m (item ∷ []) leaf f)) (run_from (machine_step (code e keeps limits rows)) k))
        (seen_of (lead_on (commit_of e.table.arrays m (item ∷ []) rest f) (place_at e.table)) (run_from (region_step e.table) n)).end
    item_back n (Some fault) is next = (0, (refl, refl))
    item_back n None is next =
        let k = next refl in
        let out = prints_of m (item ∷ []) in
        let x = after_printing out (run rest new n) in (
          k.0,
          subst (λ (y : Seen). Answers x y x.end) (sym (leaf_seen (code e keeps limits rows) out new leaf k.0))
              (Answers-after out (run rest new n) (shown leaf new k.0) (run rest new n).end k.1),
        )

  -- the side of a test
  pub test_shown : (row : ℕ) (on : Operand) (yes_leaf no_leaf : Leaf) (m : State) (n : ℕ) → slice_get rows row ≡ Some (Either on (At_leaf yes_leaf) (At_leaf no_leaf))
      → shown (Goto row) m (suc n) ≡ shown (if holds (operand_value m.names on) then yes_leaf else no_leaf) m n
  test_shown row on yes_leaf no_leaf m n there =
      row_seen (code e keeps limits rows) row (Either on (At_leaf yes_leaf) (At_leaf no_leaf)) m n there ∙ by_test (holds (operand_value m.names on))
    where
      by_test : (b : Bool) → seen_of (after_row (commit_of e.table.arrays m (if b then [] else []) (if b then yes_leaf else no_leaf) (fault_of e.table.arrays m (if b then [] else []))))
          (run_from (machine_step (code e keeps limits rows)) n) ≡ shown (if b then yes_leaf else no_leaf) m n
      by_test true = leaf_seen (code e keeps limits rows) [] m yes_leaf n
      by_test false = leaf_seen (code e keeps limits rows) [] m no_leaf n

  -- ---- forth

  abbrev Shows : ℕ → TableTree → Leaf → State → Type 0
  Shows n tree leaf m = (k : ℕ) × Answers (shown leaf m n) (run tree m k) (shown leaf m n).end

  -- after an item or a test
  behind_forth : (n row : ℕ) (tree : TableTree) (leaf : Leaf) (m : State)
      → ((row : ℕ) (tree : TableTree) (m : State) → TreeStands e rows row tree → IsRoot tree → NeverFaults (run tree m) → Shows n tree (root_leaf row tree) m)
      → ForthIn e keeps limits rows n → LeadsBehind e row tree leaf → TreeStands e rows row tree → NeverFaults (run tree m) → Shows n tree leaf m
  behind_forth n row (Does origin item rest) leaf m next regions (to_item) stands never = next row (Does origin item rest) m stands tt never
  behind_forth n row (Asks origin on p q) leaf m next regions (to_test) stands never = next row (Asks origin on p q) m stands tt never
  behind_forth n row (Next region) leaf m next regions (to_region there) stands never =
      subst (λ (l : Leaf). Shows n (Next region) l m) (sym there.is) (regions region there.form there.has m never)
  behind_forth n row Stops_here leaf m next regions (to_end) stands never = (1, (refl, refl))
  behind_forth n row (Traps_here kind line) leaf m next regions (to_trap) stands never = (1, (refl, refl))

  pub tree_forth : (n row : ℕ) (tree : TableTree) (m : State) → ((k : ℕ) → k < n → ForthIn e keeps limits rows k) → TreeStands e rows row tree → IsRoot tree
      → NeverFaults (run tree m) → Shows n tree (root_leaf row tree) m
  tree_forth zero row (Does origin item rest) m regions stands root never = (0, ([], refl))
  tree_forth zero row (Asks origin on p q) m regions stands root never = (0, ([], refl))
  tree_forth (suc n) row (Does origin item rest) m regions (item_row {leaf} there leads below) root never =
      let k = item_forth origin item rest leaf m n (fault_of e.table.arrays m (item ∷ [])) refl
      (λ none. behind_forth n (suc row) rest leaf (state_after e.table.arrays m (item ∷ []))
      (λ row' tree' m' stands' root' never'. tree_forth n row' tree' m' (λ k less. regions k (omega arith)) stands' root' never') (regions n (omega arith))
      leads below (never_later origin item rest m never none)) in
      (suc k.0, subst (λ (x : Seen). Answers x (run (Does origin item rest) m (suc k.0)) x.end) (sym (item_shown row origin item rest leaf m n there)) k.1)
  tree_forth (suc n) row (Asks origin on p q) m regions (test_row {yes_leaf} {no_leaf} there yes_leads no_leads yes_below no_below) root never =
      let k = by_test (holds (operand_value m.names on)) refl
      (λ never'. behind_forth n (suc row) p yes_leaf m
      (λ row' tree' m' stands' root' never'. tree_forth n row' tree' m' (λ k less. regions k (omega arith)) stands' root' never') (regions n (omega arith))
      yes_leads yes_below never')
      (λ never'. behind_forth n (suc row + units p) q no_leaf m
      (λ row' tree' m' stands' root' never'. tree_forth n row' tree' m' (λ k less. regions k (omega arith)) stands' root' never') (regions n (omega arith))
      no_leads no_below never') in
      (suc k.0, subst (λ (x : Seen). Answers x (run (Asks origin on p q) m (suc k.0)) x.end) (sym (test_shown row on yes_leaf no_leaf m n there)) k.1)
    where
      by_test : (b : Bool) → holds (operand_value m.names on) ≡ b → (NeverFaults (run p m) → Shows n p yes_leaf m) → (NeverFaults (run q m) → Shows n q no_leaf m)
          → (k : ℕ) × Answers (shown (if b then yes_leaf else no_leaf) m n) (after_printing [] (run (if b then p else q) m k)) (shown (if b then yes_leaf else no_leaf) m n).end
      by_test true e' one other = one (λ k fault is. never (suc k) fault (ap (λ (b : Bool). (run (if b then p else q) m k).end) e' ∙ is))
      by_test false e' one other = other (λ k fault is. never (suc k) fault (ap (λ (b : Bool). (run (if b then p else q) m k).end) e' ∙ is))
  tree_forth n row (Next region) m regions stands root never = absurd root
  tree_forth n row Stops_here m regions stands root never = (1, (refl, refl))
  tree_forth n row (Traps_here kind line) m regions stands root never = (1, (refl, refl))

  -- ---- back

  abbrev IsShown : ℕ → TableTree → Leaf → State → Type 0
  IsShown n tree leaf m = (k : ℕ) × Answers (run tree m n) (shown leaf m k) (run tree m n).end

  ended_stop : (n : ℕ) (m : State) → Answers (run Stops_here m n) (shown Stop m 0) (run Stops_here m n).end
  ended_stop zero m = ([], refl)
  ended_stop (suc n) m = (refl, refl)

  ended_trap : (n : ℕ) (kind : TrapKind) (line : ℕ) (m : State) → Answers (run (Traps_here kind line) m n) (shown (Trap kind line) m 0) (run (Traps_here kind line) m n).end
  ended_trap zero kind line m = ([], refl)
  ended_trap (suc n) kind line m = (refl, refl)

  behind_back : (n row : ℕ) (tree : TableTree) (leaf : Leaf) (m : State)
      → ((row : ℕ) (tree : TableTree) (m : State) → TreeStands e rows row tree → IsRoot tree → NeverFaults (run tree m) → IsShown n tree (root_leaf row tree) m)
      → ((to : ℕ) → BackAt e keeps limits rows n to) → LeadsBehind e row tree leaf → TreeStands e rows row tree → NeverFaults (run tree m) → IsShown n tree leaf m
  behind_back n row (Does origin item rest) leaf m next regions (to_item) stands never = next row (Does origin item rest) m stands tt never
  behind_back n row (Asks origin on p q) leaf m next regions (to_test) stands never = next row (Asks origin on p q) m stands tt never
  behind_back n row (Next region) leaf m next regions (to_region there) stands never =
      subst (λ (l : Leaf). IsShown n (Next region) l m) (sym there.is) (regions region there.form there.has m never)
  behind_back n row Stops_here leaf m next regions (to_end) stands never = (0, ended_stop n m)
  behind_back n row (Traps_here kind line) leaf m next regions (to_trap) stands never = (0, ended_trap n kind line m)

  pub tree_back : (n row : ℕ) (tree : TableTree) (m : State) → ((k : ℕ) → k < n → (to : ℕ) → BackAt e keeps limits rows k to) → TreeStands e rows row tree → IsRoot tree
      → NeverFaults (run tree m) → IsShown n tree (root_leaf row tree) m
  tree_back zero row (Does origin item rest) m regions stands root never = (0, ([], refl))
  tree_back zero row (Asks origin on p q) m regions stands root never = (0, ([], refl))
  tree_back (suc n) row (Does origin item rest) m regions (item_row {leaf} there leads below) root never =
      let k = item_back origin item rest leaf m n (fault_of e.table.arrays m (item ∷ [])) refl
      (λ none. behind_back n (suc row) rest leaf (state_after e.table.arrays m (item ∷ []))
      (λ row' tree' m' stands' root' never'. tree_back n row' tree' m' (λ k less to. regions k (omega arith) to) stands' root' never') (λ to. regions n (omega arith) to)
      leads below (never_later origin item rest m never none)) in
      let x = run (Does origin item rest) m (suc n) in
      (suc k.0, subst (λ (y : Seen). Answers x y x.end) (sym (item_shown row origin item rest leaf m k.0 there)) k.1)
  tree_back (suc n) row (Asks origin on p q) m regions (test_row {yes_leaf} {no_leaf} there yes_leads no_leads yes_below no_below) root never =
      let k = by_test (holds (operand_value m.names on)) refl
      (λ never'. behind_back n (suc row) p yes_leaf m
      (λ row' tree' m' stands' root' never'. tree_back n row' tree' m' (λ k less to. regions k (omega arith) to) stands' root' never') (λ to. regions n (omega arith) to)
      yes_leads yes_below never')
      (λ never'. behind_back n (suc row + units p) q no_leaf m
      (λ row' tree' m' stands' root' never'. tree_back n row' tree' m' (λ k less to. regions k (omega arith) to) stands' root' never') (λ to. regions n (omega arith) to)
      no_leads no_below never') in
      let x = run (Asks origin on p q) m (suc n) in
      (suc k.0, subst (λ (y : Seen). Answers x y x.end) (sym (test_shown row on yes_leaf no_leaf m k.0 there)) k.1)
    where
      by_test : (b : Bool) → holds (operand_value m.names on) ≡ b → (NeverFaults (run p m) → IsShown n p yes_leaf m) → (NeverFaults (run q m) → IsShown n q no_leaf m)
          → (k : ℕ) × Answers (after_printing [] (run (if b then p else q) m n)) (shown (if b then yes_leaf else no_leaf) m k) (run (if b then p else q) m n).end
      by_test true e' one other = one (λ k fault is. never (suc k) fault (ap (λ (b : Bool). (run (if b then p else q) m k).end) e' ∙ is))
      by_test false e' one other = other (λ k fault is. never (suc k) fault (ap (λ (b : Bool). (run (if b then p else q) m k).end) e' ∙ is))
  tree_back n row (Next region) m regions stands root never = absurd root
  tree_back n row Stops_here m regions stands root never = (0, ended_stop n m)
  tree_back n row (Traps_here kind line) m regions stands root never = (0, ended_trap n kind line m)
