-- A removal keeps what a code does, and its pace.
use Rattle.std.proofs.Common.{◌≡◌, ℕ, zero, suc, Bool, true, false, List, [], ◌∷◌, Option, Some, None, refl, sym, ◌∙◌, ap, subst, ◌⊎◌, inl, inr, arith}
use Rattle.std.specs.Prelude.{ℤ, if◌then◌else◌, ◌≢◌, slice_get}
use Rattle.std.specs.Option.{option_map}
use Rattle.std.proofs.lemmas.Option.{slice_get-map}
use Rattle.pc_word.specs.declared.item.Item.{Item}
use Rattle.pc_word.specs.declared.item.MachineFault.{MachineFault}
use Rattle.pc_word.specs.Word.{holds}
use Rattle.pc_word.specs.Run.{Answers, Agree, Step, Goes, Stops, seen_of, run_from, reach, reached_of, reached_after}
use Rattle.pc_word.specs.models.Simulation.{Meet, Simulates}
use Rattle.pc_word.proofs.Runs.{Answers-after, Answers-trans, run_from-answers, Agree-simulated}
use Rattle.pc_machine.specs.declared.tree.Leaf.{Leaf}
use Rattle.pc_machine.specs.declared.tree.Leaf.TheVariants.{Goto, Stop, Trap}
use Rattle.pc_machine.specs.MachineCode.{CodeRow, RowCode}
use Rattle.pc_word.specs.Row.{Then, Either, At_leaf, path_of, leaf_of, commit_of}
use Rattle.pc_word.specs.State.{State}
use Rattle.pc_word.specs.Items.{operand_value}
use Rattle.pc_word.specs.Commit.{prints_of, fault_of, state_after}
use Rattle.pc_machine.specs.MachineRun.{Cycle, follow_leaf, after_row, run_row, machine_step, machine_start, machine_run}
use Rattle.pc_tighten.specs.Removals.{shifted, sent, sent_leaf, sent_row, without_row, removed, IsGotoAlone}
use Rattle.pc_tighten.proofs.Lists.{nat_eq-refl, nat_eq-apart}

-- ---- machines of which one leaves out steps that print nothing

abbrev pub step_on : {S T : Type 0} → (S → T) → Step S → Step T
step_on place (Goes out s) = Goes out (place s)
step_on place (Stops out e) = Stops out e

-- from each state both step alike, or the first alone steps, to a state from which both do
pub data Shortens {S T : Type 0} (f : S → Step S) (g : T → Step T) (place : S → T) (s : S) : Type 0 where
  both : g (place s) ≡ step_on place (f s) → Shortens f g place s
  alone : (next : S) → f s ≡ Goes [] next → place next ≡ place s → g (place next) ≡ step_on place (f next) → Shortens f g place s

module _ {S T : Type 0} (f : S → Step S) (g : T → Step T) (place : S → T) (sim : (s : S) → Shortens f g place s) where
  pub shorter_pace : (n : ℕ) (s : S) → Answers (run_from f n s) (run_from g n (place s)) (run_from f n s).end
  shorter_pace zero s = ([], refl)
  shorter_pace (suc n) s = elim (sim s) [
    | both is ↦ subst (λ (st : Step T). Answers (seen_of (f s) (run_from f n)) (seen_of st (run_from g n)) (seen_of (f s) (run_from f n)).end) (sym is) (alike (f s) (λ x. shorter_pace n x))
    | alone next goes same is ↦
        subst (λ (st : Step S). Answers (seen_of st (run_from f n)) (run_from g (suc n) (place s)) (seen_of st (run_from f n)).end) (sym goes)
        (Answers-trans (run_from f n next) (run_from g n (place s)) (run_from g (suc n) (place s)) (run_from f n next).end (run_from g n (place s)).end refl
        (subst (λ (x : T). Answers (run_from f n next) (run_from g n x) (run_from f n next).end) same (shorter_pace n next))
        (run_from-answers g n (suc n) (place s) (omega arith)))
  ]
    where
      alike : (st : Step S) → ((x : S) → Answers (run_from f n x) (run_from g n (place x)) (run_from f n x).end)
          → Answers (seen_of st (run_from f n)) (seen_of (step_on place st) (run_from g n)) (seen_of st (run_from f n)).end
      alike (Goes out x) go = Answers-after out (run_from f n x) (run_from g n (place x)) (run_from f n x).end (go x)
      alike (Stops out e) go = (refl, refl)

  meets_one : (st : Step S) → Meet (λ x y. y ≡ place x) (reached_of st (reach f 0)) (reached_of (step_on place st) (reach g 0))
  meets_one (Goes out x) = (refl, refl)
  meets_one (Stops out e) = (refl, refl)

  meets_after : (r : Step S) → Meet (λ x y. y ≡ place x) (reached_after [] (reached_of r (reach f 0))) (reached_of (step_on place r) (reach g 0))
  meets_after (Goes out x) = (refl, refl)
  meets_after (Stops out e) = (refl, refl)

  meets : Simulates f g (λ x y. y ≡ place x)
  meets s y at = elim (sim s) [
    | both is ↦ record {
      more_steps = 0;
      other_steps = 0;
      meet = subst (λ (st : Step T). Meet (λ x y. y ≡ place x) (reached_of (f s) (reach f 0)) (reached_of st (reach g 0))) (sym (ap g at ∙ is)) (meets_one (f s));
    }
    | alone next goes same is ↦ record {
      more_steps = 1;
      other_steps = 0;
      meet = subst (λ (st : Step T). Meet (λ x y. y ≡ place x) (reached_of (f s) (reach f 1)) (reached_of st (reach g 0))) (sym (ap g (at ∙ sym same) ∙ is))
          (subst (λ (st : Step S). Meet (λ x y. y ≡ place x) (reached_of st (reach f 1)) (reached_of (step_on place (f next)) (reach g 0))) (sym goes) (meets_after (f next)));
    }
  ]

  pub shorter_agrees : (s : S) → Agree (λ n. run_from f n s) (λ n. run_from g n (place s))
  shorter_agrees s = Agree-simulated f g (λ x y. y ≡ place x) meets s (place s) refl

-- ---- rows that are sent on

module _ (t u : ℕ) where
  sent-path : (names : ℕ → ℤ) (row : CodeRow) → path_of names (sent_row t u row) ≡ path_of names row
  sent-path names (Then item rest) = ap (λ (l : List Item). item ∷ l) (sent-path names rest)
  sent-path names (Either on on_yes on_no) =
      elim (holds (operand_value names on)) as (λ b. (if b then path_of names (sent_row t u on_yes) else path_of names (sent_row t u on_no)) ≡
      (if b then path_of names on_yes else path_of names on_no)) [
        | true ↦ sent-path names on_yes
        | false ↦ sent-path names on_no
      ]
  sent-path names (At_leaf leaf) = refl

  sent-leaf : (names : ℕ → ℤ) (row : CodeRow) → leaf_of names (sent_row t u row) ≡ sent_leaf t u (leaf_of names row)
  sent-leaf names (Then item rest) = sent-leaf names rest
  sent-leaf names (Either on on_yes on_no) =
      elim (holds (operand_value names on)) as (λ b. (if b then leaf_of names (sent_row t u on_yes) else leaf_of names (sent_row t u on_no)) ≡ sent_leaf t u
      (if b then leaf_of names on_yes else leaf_of names on_no)) [
        | true ↦ sent-leaf names on_yes
        | false ↦ sent-leaf names on_no
      ]
  sent-leaf names (At_leaf leaf) = refl

pub without-at : (t row : ℕ) (rows : List CodeRow) → row ≢ t → slice_get (without_row t rows) (shifted t row) ≡ slice_get rows row
without-at t row [] apart = refl
without-at zero zero (r ∷ rows) apart = absurd (apart refl)
without-at zero (suc row) (r ∷ rows) apart = refl
without-at (suc t) zero (r ∷ rows) apart = refl
without-at (suc t) (suc row) (r ∷ rows) apart = without-at t row rows (λ e. apart (ap suc e))

one_or_other : (n m : ℕ) → (n ≡ m) ⊎ (n ≢ m)
one_or_other n m = grind arith

pub entry_stays : (t u : ℕ) → t ≢ 0 → sent t u 0 ≡ 0
entry_stays zero u apart = absurd (apart refl)
entry_stays (suc t) u apart = ap (λ (b : Bool). if b then shifted (suc t) u else 0) (nat_eq-apart 0 (suc t) (λ e. apart (sym e)))

module _ (code : RowCode) (t u : ℕ) (may : IsGotoAlone code.rows t u) where
  abbrev pub placed : Cycle → Cycle
  placed here = record { row = sent t u here.row; state = here.state }

  abbrev shorter : RowCode
  shorter = removed code t u

  follows : (out : List ℤ) (new : State) (leaf : Leaf) → follow_leaf out new (sent_leaf t u leaf) ≡ step_on placed (follow_leaf out new leaf)
  follows out new (Goto row) = refl
  follows out new Stop = refl
  follows out new (Trap kind line) = refl

  after_fault : (s : State) (items : List Item) (leaf : Leaf) (f : Option MachineFault)
      → after_row (commit_of code.arrays s items (sent_leaf t u leaf) f) ≡ step_on placed (after_row (commit_of code.arrays s items leaf f))
  after_fault s items leaf (Some fault) = refl
  after_fault s items leaf None = follows (prints_of s items) (state_after code.arrays s items) leaf

  runs_alike : (s : State) (r : Option CodeRow) → run_row code.arrays s (option_map (sent_row t u) r) ≡ step_on placed (run_row code.arrays s r)
  runs_alike s None = refl
  runs_alike s (Some row) =
      ap (λ (l : List Item). after_row (commit_of code.arrays s l (leaf_of s.names (sent_row t u row)) (fault_of code.arrays s l))) (sent-path t u s.names row)
      ∙ ap (λ (l : Leaf). after_row (commit_of code.arrays s (path_of s.names row) l (fault_of code.arrays s (path_of s.names row)))) (sent-leaf t u s.names row)
      ∙ after_fault s (path_of s.names row) (leaf_of s.names row) (fault_of code.arrays s (path_of s.names row))

  both_step : (here : Cycle) → here.row ≢ t → machine_step shorter (placed here) ≡ step_on placed (machine_step code here)
  both_step here apart =
      let e : sent t u here.row ≡ shifted t here.row = ap (λ (b : Bool). if b then shifted t u else shifted t here.row) (nat_eq-apart here.row t apart) in
      ap (λ (i : ℕ). run_row code.arrays here.state (slice_get shorter.rows i)) e
      ∙ ap (λ r. run_row code.arrays here.state r) (slice_get-map (sent_row t u) (without_row t code.rows) (shifted t here.row))
      ∙ ap (λ r. run_row code.arrays here.state (option_map (sent_row t u) r)) (without-at t here.row code.rows apart)
      ∙ runs_alike here.state (slice_get code.rows here.row)

  sent_to : sent t u t ≡ shifted t u
  sent_to = ap (λ (b : Bool). if b then shifted t u else shifted t t) (nat_eq-refl t)

  sent_from : sent t u u ≡ shifted t u
  sent_from = ap (λ (b : Bool). if b then shifted t u else shifted t u) (nat_eq-apart u t may.not_itself)

  shortens : (here : Cycle) → Shortens (machine_step code) (machine_step shorter) placed here
  shortens here = elim (one_or_other here.row t) [
    | inr apart ↦ both (both_step here apart)
    | inl same ↦
        let next : Cycle = record { row = u; state = here.state } in
        alone next
        (ap (λ (i : ℕ). run_row code.arrays here.state (slice_get code.rows i)) same ∙ ap (λ r. run_row code.arrays here.state r) may.at)
        (ap (λ (i : ℕ). let c : Cycle = record { row = i; state = here.state } in c) (sent_from ∙ sym sent_to ∙ ap (λ (i : ℕ). sent t u i) (sym same)))
        (both_step next may.not_itself)
  ]

  same_start : (input : List ℤ) → placed (machine_start code input) ≡ machine_start code input
  same_start input = ap (λ (i : ℕ). let c : Cycle = record { row = i; state = (machine_start code input).state } in c) (entry_stays t u may.not_entry)

  -- the runs agree
  pub removal_agrees : (input : List ℤ) → Agree (machine_run code input) (machine_run shorter input)
  removal_agrees input = subst (λ (c : Cycle). Agree (machine_run code input) (λ n. run_from (machine_step shorter) n c)) (same_start input)
      (shorter_agrees (machine_step code) (machine_step shorter) placed shortens (machine_start code input))

  -- and after as many cycles the second has shown what the first has
  pub removal_keeps_pace : (input : List ℤ) (n : ℕ) → Answers (machine_run code input n) (machine_run shorter input n) (machine_run code input n).end
  removal_keeps_pace input n = subst (λ (c : Cycle). Answers (machine_run code input n) (run_from (machine_step shorter) n c) (machine_run code input n).end) (same_start input)
      (shorter_pace (machine_step code) (machine_step shorter) placed shortens n (machine_start code input))
