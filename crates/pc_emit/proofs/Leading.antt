-- What a code shows from a leaf on, and through rows of copies.
use Rattle.std.proofs.Common.{◌≡◌, ℕ, zero, suc, ◌+◌, ◌≤◌, List, [], ◌∷◌, length, Some, refl, sym, ◌∙◌, ap, subst, append-nil, arith}
use Rattle.std.specs.Prelude.{ℤ, slice_get}
use Rattle.pc_word.specs.declared.item.End.TheVariants.{Ended, Trapped}
use Rattle.pc_word.specs.State.{State}
use Rattle.pc_word.specs.Row.{row_step}
use Rattle.pc_word.specs.Run.{Seen, Run, Answers, after_printing, seen_of, run_from}
use Rattle.pc_word.proofs.Runs.{Answers-refl, run_from-answers}
use Rattle.pc_window.proofs.Paces.{answer_of_answer}
use Rattle.pc_machine.specs.declared.tree.Leaf.{Leaf}
use Rattle.pc_machine.specs.declared.tree.Leaf.TheVariants.{Goto, Stop, Trap}
use Rattle.pc_machine.specs.MachineCode.{CodeRow, RowCode}
use Rattle.pc_machine.specs.MachineRun.{follow_leaf, after_row, run_row, machine_step}
use Rattle.pc_copies.specs.declared.moves.Move.{Move}
use Rattle.pc_copies.specs.Moves.{after_rows}
use Rattle.pc_copies.specs.Laws.{copy_row}
use Rattle.pc_copies.proofs.Steps.{row_commits}
use Rattle.pc_emit.specs.Emitted.{Passes, passes_none, passes_row}

-- the state after a row of copies
abbrev pub copied : List ℕ → List Move → State → State
copied lengths row m = after_rows lengths (row ∷ []) m

module _ (code : RowCode) where
  -- the run from a row, and from a leaf
  abbrev pub row_run : ℕ → State → Run
  row_run row m n = run_from (machine_step code) n (record { row = row; state = m })

  abbrev pub leaf_run : Leaf → State → Run
  leaf_run (Goto row) m n = row_run row m n
  leaf_run Stop m n = record { printed = []; end = Some Ended }
  leaf_run (Trap kind line) m n = record { printed = []; end = Some (Trapped kind line) }

  -- a row leads on to its leaf
  pub leaf_seen : (out : List ℤ) (m : State) (leaf : Leaf) (n : ℕ)
      → seen_of (follow_leaf out m leaf) (run_from (machine_step code) n) ≡ after_printing out (leaf_run leaf m n)
  leaf_seen out m (Goto row) n = refl
  leaf_seen out m Stop n = ap (λ (l : List ℤ). let seen : Seen = record { printed = l; end = Some Ended } in seen) (sym (append-nil out))
  leaf_seen out m (Trap kind line) n = ap (λ (l : List ℤ). let seen : Seen = record { printed = l; end = Some (Trapped kind line) } in seen) (sym (append-nil out))

  pub row_seen : (row : ℕ) (it : CodeRow) (m : State) (n : ℕ) → slice_get code.rows row ≡ Some it
      → row_run row m (suc n) ≡ seen_of (after_row (row_step code.arrays it m)) (run_from (machine_step code) n)
  row_seen row it m n there = ap (λ (r : _). seen_of (run_row code.arrays m r) (run_from (machine_step code) n)) there

  -- more cycles show no less
  pub leaf_grows : (leaf : Leaf) (m : State) (n k : ℕ) → n ≤ k → Answers (leaf_run leaf m n) (leaf_run leaf m k) (leaf_run leaf m n).end
  leaf_grows (Goto row) m n k le = run_from-answers (machine_step code) n k (record { row = row; state = m }) le
  leaf_grows Stop m n k le = (refl, refl)
  leaf_grows (Trap kind line) m n k le = (refl, refl)

  -- a row that is a leaf alone, or copies before one
  pub copies_seen : (at : ℕ) (copies : List Move) (next : Leaf) (m : State) (n : ℕ) → slice_get code.rows at ≡ Some (copy_row copies next)
      → row_run at m (suc n) ≡ leaf_run next (copied code.arrays copies m) n
  copies_seen at copies next m n there =
      row_seen at (copy_row copies next) m n there
      ∙ ap (λ (o : _). seen_of (after_row o) (run_from (machine_step code) n)) (row_commits code.arrays copies next m)
      ∙ leaf_seen [] (copied code.arrays copies m) next n

  -- through rows of copies: as many cycles show no more than from what they lead to
  pub passes_forth : {leaf target : Leaf} {copies : List (List Move)} → Passes code.rows leaf copies target → (m : State) (n : ℕ)
      → Answers (leaf_run leaf m n) (leaf_run target (after_rows code.arrays copies m) n) (leaf_run leaf m n).end
  passes_forth (passes_none {leaf}) m n = Answers-refl (leaf_run leaf m n)
  passes_forth (passes_row {at} {copies} {more} {next} {leaf = target} there h) m zero =
      ((leaf_run target (after_rows code.arrays (copies ∷ more) m) 0).printed, refl)
  passes_forth (passes_row {at} {copies} {more} {next} {leaf = target} there h) m (suc n) =
      let moved = copied code.arrays copies m in
      let last = after_rows code.arrays more moved in
      subst (λ (x : Seen). Answers x (leaf_run target last (suc n)) x.end) (sym (copies_seen at copies next m n there))
      (answer_of_answer (leaf_run next moved n) (leaf_run target last n) (leaf_run target last (suc n))
      (passes_forth h moved n) (leaf_grows target last n (suc n) (omega arith)))

  -- and after them the same is shown
  pub passes_back : {leaf target : Leaf} {copies : List (List Move)} → Passes code.rows leaf copies target → (m : State) (n : ℕ)
      → leaf_run leaf m (length copies + n) ≡ leaf_run target (after_rows code.arrays copies m) n
  passes_back (passes_none {leaf}) m n = let none : length {A = List Move} [] + n ≡ n = omega arith in ap (λ (k : ℕ). leaf_run leaf m k) none
  passes_back (passes_row {at} {copies} {more} {next} there h) m n =
      let one : length (copies ∷ more) + n ≡ suc (length more + n) = omega arith in
      ap (λ (k : ℕ). row_run at m k) one ∙ copies_seen at copies next m (length more + n) there ∙ passes_back h (copied code.arrays copies m) n
