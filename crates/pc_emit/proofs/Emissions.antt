-- A code in which the rows of regions stand shows what the table shows.
use Rattle.std.proofs.Common.{◌≡◌, ℕ, zero, suc, ◌<◌, List, [], ◌∷◌, length, Option, Some, refl, sym, ◌∙◌, ap, subst, inl, inr, arith}
use Rattle.std.specs.Prelude.{ℤ, true, nat_eq}
use Rattle.std.specs.List.{AllByRecursion}
use Rattle.pc_word.specs.declared.item.Limits.{Limits}
use Rattle.pc_word.specs.State.{State, start_state}
use Rattle.pc_word.specs.Row.{At_leaf}
use Rattle.pc_word.specs.Run.{Run, Seen, Answers, Agree, run_from, NeverFaults}
use Rattle.pc_table.specs.Table.{TableTree, Next, region_tree}
use Rattle.pc_table.specs.RegionRun.{region_step, region_run, table_run}
use Rattle.pc_table.specs.TableKeeps.{TableKeeps}
use Rattle.pc_window.specs.Rebasing.{is_in}
use Rattle.pc_window.specs.Unwinding.{or_zero}
use Rattle.pc_window.proofs.Paces.{answer_of_answer, NeverFaults-follows}
use Rattle.pc_window.proofs.Uses.{nat_eq-tells}
use Rattle.pc_automaton.specs.Automaton.{AutomatonState}
use Rattle.pc_automaton.specs.AutomatonRun.{automaton_run}
use Rattle.pc_assign.specs.Assigned.{Registers}
use Rattle.pc_machine.specs.declared.tree.Leaf.{Leaf}
use Rattle.pc_machine.specs.MachineCode.{CodeRow}
use Rattle.pc_emit.specs.Emitted.{Emission, RegionForm, Plain, ByAutomaton, form_leaf, BeginsAt, at_first_row, by_leaf_alone, IsEmitted}
use Rattle.pc_emit.specs.PackedForm.{IsPackedForm, IsRegionForm}
use Rattle.pc_emit.specs.Laws.{EmittedRowsDoWhatTheirTableDoes}
use Rattle.pc_emit.proofs.Leading.{row_run, leaf_run, leaf_seen, row_seen, leaf_grows}
use Rattle.pc_emit.proofs.PackedRuns.{code, ForthIn, BackAt, StandsAt, state_forth, state_back}
use Rattle.pc_emit.proofs.PlainRuns.{roots, tree_forth, tree_back}
use Rattle.pc_word.proofs.Truth.{or_true}

all_in : (P : ℕ → Type 0) (xs : List ℕ) (x : ℕ) → AllByRecursion P xs → is_in x xs ≡ true → P x
all_in P [] x all there = absurd (cc)
all_in P (y ∷ xs) x all there = elim (or_true (nat_eq x y) (is_in x xs) there) [
  | inl p ↦ subst P (sym (nat_eq-tells x y p)) all.0
  | inr p ↦ all_in P xs x all.1 p
]

module _ (e : Emission) (keeps : TableKeeps e.table) (limits : Limits) (rows : List CodeRow) (emitted : IsEmitted e rows)
    (forms : (region : ℕ) (form : RegionForm) → e.forms region ≡ Some form → IsRegionForm e.table region form) where
  -- a region's run is that of its tree
  tree_same : (region : ℕ) (m : State) (n : ℕ) → region_run e.table (region_tree e.table region) m n ≡ region_run e.table (Next region) m n
  tree_same region m n = ap (λ (t : TableTree). run_from (region_step e.table) n (record { tree = t; state = m })) (keeps.begins region)

  never_tree : (region : ℕ) (m : State) → NeverFaults (region_run e.table (Next region) m) → NeverFaults (region_run e.table (region_tree e.table region) m)
  never_tree region m never n fault is = never n fault (ap (λ (x : Seen). x.end) (sym (tree_same region m n)) ∙ is)

  module _ (region : ℕ) (states : List AutomatonState) (registers : Registers) (has : e.forms region ≡ Some (ByAutomaton states registers)) where
    abbrev packed : IsPackedForm e.table region states registers
    packed = forms region (ByAutomaton states registers) has

    begins_at : (m : State) → StandsAt e keeps limits rows region states registers packed.automaton packed.apart packed.there (emitted.stands region (ByAutomaton states registers) has) 0 m m
    begins_at m = record {
      state = packed.first;
      there = packed.is_first;
      holds = record {
        names = λ x there. ap (λ (o : Option ℕ). m.names (or_zero o)) (all_in (λ v. registers.of 0 v ≡ Some v) packed.first.parameters x packed.variables there);
        cells = refl;
        input = refl;
      };
    }

    never_automaton : (m : State) → NeverFaults (region_run e.table (Next region) m) → NeverFaults (automaton_run e.table states m)
    never_automaton m never = NeverFaults-follows (automaton_run e.table states m) (region_run e.table (Next region) m) (packed.runs m never).agree.forth never

    packed_forth : (n : ℕ) → ((k : ℕ) → k < n → ForthIn e keeps limits rows k) → (m : State) → NeverFaults (region_run e.table (Next region) m)
        → (k : ℕ) × Answers (row_run (code e keeps limits rows) (e.places.state region 0) m n) (region_run e.table (Next region) m k)
        (row_run (code e keeps limits rows) (e.places.state region 0) m n).end
    packed_forth n regions m never =
        let k = state_forth e keeps limits rows region states registers packed.automaton packed.apart packed.there (emitted.stands region (ByAutomaton states registers) has)
        n regions 0 m m (begins_at m) (never_automaton m never) in
        let j = (packed.runs m never).agree.forth k.0 in
        (j.0, answer_of_answer (row_run (code e keeps limits rows) (e.places.state region 0) m n) (automaton_run e.table states m k.0) (region_run e.table (Next region) m j.0) k.1 j.1)

    module _ (n : ℕ) (m : State) (never : NeverFaults (region_run e.table (Next region) m)) where
      -- the region's run is shown
      abbrev IsShown : Type 0
      IsShown = (k : ℕ) × Answers (region_run e.table (Next region) m n) (row_run (code e keeps limits rows) (e.places.state region 0) m k) (region_run e.table (Next region) m n).end

      packed_back : ((k : ℕ) → k < n → (to : ℕ) → BackAt e keeps limits rows k to) → IsShown
      packed_back regions =
          let k = state_back e keeps limits rows region states registers packed.automaton packed.apart packed.there (emitted.stands region (ByAutomaton states registers) has)
          n regions 0 m m (begins_at m) (never_automaton m never) in (
            k.0,
            answer_of_answer (region_run e.table (Next region) m n) (automaton_run e.table states m n) (row_run (code e keeps limits rows) (e.places.state region 0) m k.0)
                ((packed.runs m never).pace n) k.1,
          )

  -- ---- forth

  region_forth : (n : ℕ) → ((k : ℕ) → k < n → ForthIn e keeps limits rows k) → ForthIn e keeps limits rows n
  region_forth n regions region Plain has m never =
      let k = tree_forth e keeps limits rows n (e.places.entry region) (region_tree e.table region) m regions (emitted.stands region Plain has) (roots e.table keeps region)
      (never_tree region m never) in (
        k.0,
        subst (λ (y : Seen). Answers (leaf_run (code e keeps limits rows) (form_leaf e region Plain) m n) y (leaf_run (code e keeps limits rows) (form_leaf e region Plain) m n).end)
            (tree_same region m k.0) k.1,
      )
  region_forth n regions region (ByAutomaton states registers) has m never = packed_forth region states registers has n regions m never

  forth_below : (n k : ℕ) → k < n → ForthIn e keeps limits rows k
  forth_below zero k less = absurd (omega arith)
  forth_below (suc n) k less = region_forth k (λ j fewer. forth_below n j (omega arith))

  -- ---- back

  region_back : (n region : ℕ) → ((k : ℕ) → k < n → (to : ℕ) → BackAt e keeps limits rows k to) → BackAt e keeps limits rows n region
  region_back n region regions Plain has m never =
      let k = tree_back e keeps limits rows n (e.places.entry region) (region_tree e.table region) m regions (emitted.stands region Plain has) (roots e.table keeps region)
      (never_tree region m never) in
      (k.0, subst (λ (x : Seen). Answers x (leaf_run (code e keeps limits rows) (form_leaf e region Plain) m k.0) x.end) (tree_same region m n) k.1)
  region_back n region regions (ByAutomaton states registers) has m never = packed_back region states registers has n m never regions

  back_below : (n k : ℕ) → k < n → (region : ℕ) → BackAt e keeps limits rows k region
  back_below zero k less region = absurd (omega arith)
  back_below (suc n) k less region = region_back k region (λ j fewer to. back_below n j (omega arith) to)

  -- ---- the whole

  leaf_agrees : (m : State) → NeverFaults (region_run e.table (Next 0) m) → Agree (leaf_run (code e keeps limits rows) emitted.first m) (region_run e.table (Next 0) m)
  leaf_agrees m never =
      subst (λ (l : Leaf). Agree (leaf_run (code e keeps limits rows) l m) (region_run e.table (Next 0) m)) (sym emitted.leads.is) (record {
        forth = λ n. forth_below (suc n) n (omega arith) 0 emitted.leads.form emitted.leads.has m never;
        back = λ n. back_below (suc n) n (omega arith) 0 emitted.leads.form emitted.leads.has m never;
      })

  pub begins_agree : (leaf : Leaf) → BeginsAt rows leaf → (m : State) → Agree (leaf_run (code e keeps limits rows) leaf m) (region_run e.table (Next 0) m)
      → Agree (row_run (code e keeps limits rows) 0 m) (region_run e.table (Next 0) m)
  begins_agree leaf at_first_row m agree = agree
  begins_agree leaf (by_leaf_alone there) m agree = record {
    forth = λ n. let k = agree.forth n in (
      k.0,
      answer_of_answer (row_run (code e keeps limits rows) 0 m n) (leaf_run (code e keeps limits rows) leaf m n)
          (region_run e.table (Next 0) m k.0) (one_behind n) k.1,
    );
    back = λ n. let k = agree.back n in (suc k.0, subst (λ (y : Seen). Answers (region_run e.table (Next 0) m n) y (region_run e.table (Next 0) m n).end) (sym (one_more k.0)) k.1);
  }
    where
      one_more : (n : ℕ) → row_run (code e keeps limits rows) 0 m (suc n) ≡ leaf_run (code e keeps limits rows) leaf m n
      one_more n = row_seen (code e keeps limits rows) 0 (At_leaf leaf) m n there ∙ leaf_seen (code e keeps limits rows) [] m leaf n

      one_behind : (n : ℕ) → Answers (row_run (code e keeps limits rows) 0 m n) (leaf_run (code e keeps limits rows) leaf m n) (row_run (code e keeps limits rows) 0 m n).end
      one_behind zero = ((leaf_run (code e keeps limits rows) leaf m 0).printed, refl)
      one_behind (suc n) = subst (λ (x : Seen). Answers x (leaf_run (code e keeps limits rows) leaf m (suc n)) x.end) (sym (one_more n))
          (leaf_grows (code e keeps limits rows) leaf m n (suc n) (omega arith))

pub emitted_rows_do : EmittedRowsDoWhatTheirTableDoes
emitted_rows_do e keeps limits registers initial rows emitted forms never input words =
    begins_agree e keeps limits rows emitted forms emitted.first emitted.begins (start_state initial input)
    (leaf_agrees e keeps limits rows emitted forms (start_state initial input) (never input words))
