-- Cycles one after the other, and what was counted of them.
use Rattle.std.proofs.Common.{◌≡◌, ℕ, zero, suc, ◌+◌, ◌-◌, ◌<◌, Bool, true, false, List, [], ◌∷◌, ◌++◌, length, Option, Some}
use Rattle.std.proofs.Common.{None, refl, ap, sym, ◌∙◌, subst, arith, append_assoc, length-append}
use Rattle.std.proofs.Math.Nat.{zero-add}
use Rattle.std.proofs.lemmas.List.{append-nil}
use Rattle.std.proofs.lemmas.List.Sums.{count_by-le-length}
use Rattle.std.proofs.lemmas.Option.{slice_get_within}
use Rattle.std.specs.Prelude.{ℤ, if◌then◌else◌, option_map, slice_get, slice_index_or, unwrap_or}
use Rattle.pc_word.specs.declared.item.End.{End}
use Rattle.pc_word.specs.Items.{operand_value}
use Rattle.pc_word.specs.Row.{Row, Then, Either, At_leaf, leaf_of, leaves_of}
use Rattle.pc_word.specs.Run.{Step, Goes, Stops, run_from, seen_of}
use Rattle.pc_word.specs.Word.{holds}
use Rattle.pc_machine.specs.declared.code.Code.{Code}
use Rattle.pc_machine.specs.MachineCode.{CodeRow, RowCode, code_of}
use Rattle.pc_machine.specs.MachineRun.{Cycle, machine_step}
use Rattle.pc_vm.specs.declared.event.Event.{Event}
use Rattle.pc_vm.specs.declared.event.Outcome.TheVariants as outcome
use Rattle.pc_vm.specs.declared.exit.Exit.{Exit}
use Rattle.pc_vm.specs.Exits.{IsExit, exit_number}
use Rattle.pc_vm.specs.Standing.{Standing, IsStep, here_of, printed_by}
use Rattle.pc_vm.proofs.Cycles.{event-goes, event-stops}
use Rattle.pc_count.specs.Passages.{Passage, exit_at, is_fault, leaf_left, passage_at, passages, passages_after}
use Rattle.pc_count.specs.Counts.{begins_in, counts_of_leaves, leaf_counts, leaves_by, row_counts, times_left, times_run}
use Rattle.pc_count.specs.models.Counting.{has_faulted, one_more, with_leaf}
use Rattle.pc_count.specs.models.Running.{CountsRun}
use Rattle.pc_count.proofs.Counts.{leaf_counts-more, leaf_counts-same, row_counts-more}
use Rattle.pc_count.proofs.Numbered.{first-at, length-each}

-- ---- the leaf by which a row is left

front_at : {X : Type 0} (xs ys : List X) (i : ℕ) (x : X) → slice_get xs i ≡ Some x → slice_get (xs ++ ys) i ≡ Some x
front_at [] ys i x e = absurd (cc)
front_at (z ∷ xs) ys zero x e = e
front_at (z ∷ xs) ys (suc i) x e = front_at xs ys i x e

behind_at : {X : Type 0} (xs ys : List X) (i : ℕ) (x : X) → slice_get ys i ≡ Some x → slice_get (xs ++ ys) (length xs + i) ≡ Some x
behind_at {X = X} [] ys i x e = ap (λ k. slice_get ys k) (zero-add i) ∙ e
behind_at {X = X} (z ∷ xs) ys i x e =
    let n : length (z ∷ xs) + i ≡ suc (length xs + i) = omega arith in
    ap (λ k. slice_get (z ∷ (xs ++ ys)) k) n ∙ behind_at xs ys i x e

-- is the leaf of the path that is taken
pub exit-leaf : {L : Type 0} (names : ℕ → ℤ) (row : Row L) → slice_get (leaves_of row) (exit_number names row) ≡ Some (leaf_of names row)
exit-leaf names (Then item rest) = exit-leaf names rest
exit-leaf {L = L} names (Either on on_yes on_no) =
    elim (holds (operand_value names on)) as (λ b. slice_get (leaves_of on_yes ++ leaves_of on_no) (if b then exit_number names on_yes else length (leaves_of on_yes) + exit_number names on_no)
    ≡ Some (if b then leaf_of names on_yes else leaf_of names on_no)) [
      | true ↦ front_at (leaves_of on_yes) (leaves_of on_no) (exit_number names on_yes) (leaf_of names on_yes) (exit-leaf names on_yes)
      | false ↦ behind_at (leaves_of on_yes) (leaves_of on_no) (exit_number names on_no) (leaf_of names on_no) (exit-leaf names on_no)
    ]
exit-leaf names (At_leaf leaf) = refl

-- the number of the leaf of a row that is there
pub exit-there : (code : RowCode) (here : Cycle) (row : CodeRow) → slice_get code.rows here.row ≡ Some row → exit_at code here ≡ exit_number here.state.names row
exit-there code here row at = ap (λ (found : Option CodeRow). unwrap_or (option_map (exit_number here.state.names) found) 0) at

-- ---- the way of a run

-- these cycles of a run are counted, and those from here on are left
pub record Way (code : RowCode) (budget n : ℕ) (start here : Cycle) (runs : List ℕ) (taken : List (List ℕ)) : Type 0 where
  pub done : List Passage
  pub many : length done ≡ n
  pub whole : passages code budget start ≡ done ++ passages code (budget - n) here
  pub end : (run_from (machine_step code) budget start).end ≡ (run_from (machine_step code) (budget - n) here).end
  pub rows : runs ≡ row_counts code.rows done
  pub leaves : taken ≡ leaf_counts code.rows done

-- at the start none is
pub way-begins : (code : RowCode) (budget : ℕ) (start : Cycle) (runs : List ℕ) (taken : List (List ℕ)) → runs ≡ row_counts code.rows [] → taken ≡ leaf_counts code.rows []
    → Way code budget 0 start start runs taken
way-begins code budget start runs taken rows leaves =
    let same : budget ≡ budget - 0 = omega arith in
    record {
      done = [];
      many = refl;
      whole = ap (λ k. passages code k start) same;
      end = ap (λ k. (run_from (machine_step code) k start).end) same;
      rows = rows;
      leaves = leaves;
    }

-- ---- one cycle

-- it is one of the code that the run began with
pub exit_of : {first later : Code} {here : Cycle} {exit : Exit} → later ≡ first → IsExit (code_of later) here exit → IsExit (code_of first) here exit
exit_of {here = here} {exit = exit} same is = subst (λ (code : Code). IsExit (code_of code) here exit) same is

pub step_of : {first later : Code} (here : Cycle) (event : Event) (standing : Standing) → later ≡ first → IsStep event standing (machine_step (code_of later) here)
    → IsStep event standing (machine_step (code_of first) here)
step_of here event standing same is = subst (λ (code : Code). IsStep event standing (machine_step (code_of code) here)) same is

-- what is known of a cycle: budget was left, where it left its row, and which step it was
module _ (code : RowCode) (budget n : ℕ) (start here : Cycle) (runs : List ℕ) (taken : List (List ℕ))
    (way : Way code budget n start here runs taken) (exit : Exit) (is_exit : IsExit code here exit) (within : n < budget) where
  left : budget - n ≡ suc (budget - (n + 1))
  left = omega (arith, within)

  row_there : slice_get code.rows exit.row ≡ Some is_exit.row
  row_there = subst (λ k. slice_get code.rows k ≡ Some is_exit.row) (sym is_exit.is_next) is_exit.there

  leaf_there : slice_get (leaves_of is_exit.row) exit.leaf ≡ Some (leaf_of here.state.names is_exit.row)
  leaf_there = subst (λ k. slice_get (leaves_of is_exit.row) k ≡ Some (leaf_of here.state.names is_exit.row)) (sym is_exit.taken) (exit-leaf here.state.names is_exit.row)

  runs_there : slice_index_or runs exit.row 0 ≡ times_run way.done exit.row
  runs_there = ap (λ (xs : List ℕ). slice_index_or xs exit.row 0) way.rows ∙ first-at (λ number _. times_run way.done number) code.rows exit.row is_exit.row 0 row_there

  counts_there : slice_index_or taken exit.row [] ≡ counts_of_leaves way.done exit.row is_exit.row
  counts_there =
      ap (λ (xs : List (List ℕ)). slice_index_or xs exit.row []) way.leaves ∙ first-at (counts_of_leaves way.done) code.rows exit.row is_exit.row [] row_there

  left_there : slice_index_or (slice_index_or taken exit.row []) exit.leaf 0 ≡ times_left way.done exit.row exit.leaf
  left_there =
      ap (λ (xs : List ℕ). slice_index_or xs exit.leaf 0) counts_there
      ∙ first-at (λ number _. times_left way.done exit.row number) (leaves_of is_exit.row) exit.leaf (leaf_of here.state.names is_exit.row) 0 leaf_there

  -- the counters are there, and stand below the budget
  pub has_row : exit.row < length runs
  has_row = omega (arith, slice_get_within code.rows exit.row is_exit.row row_there, ap (λ (xs : List ℕ). length xs) way.rows, length-each (λ number _. times_run way.done number) 0 code.rows)

  pub has_leaves : exit.row < length taken
  has_leaves = omega (arith, slice_get_within code.rows exit.row is_exit.row row_there, ap (λ (xs : List (List ℕ)). length xs) way.leaves, length-each (counts_of_leaves way.done) 0 code.rows)

  pub has_leaf : exit.leaf < length (slice_index_or taken exit.row [])
  has_leaf =
      omega (
        arith,
        slice_get_within (leaves_of is_exit.row) exit.leaf (leaf_of here.state.names is_exit.row) leaf_there,
        ap (λ (xs : List ℕ). length xs) counts_there,
        length-each (λ number _. times_left way.done exit.row number) 0 (leaves_of is_exit.row),
      )

  pub few_runs : slice_index_or runs exit.row 0 < budget
  few_runs = omega (arith, runs_there, count_by-le-length (begins_in exit.row) way.done, way.many, within)

  pub few_taken : slice_index_or (slice_index_or taken exit.row []) exit.leaf 0 < budget
  few_taken = omega (arith, left_there, count_by-le-length (leaves_by exit.row exit.leaf) way.done, way.many, within)

  -- the cycle
  abbrev cycle : Passage
  cycle = passage_at code here

  abbrev more : List Passage
  more = way.done ++ cycle ∷ []

  cycle_row : cycle.row ≡ exit.row
  cycle_row = sym is_exit.is_next

  exit_is : exit_at code here ≡ exit.leaf
  exit_is = exit-there code here is_exit.row is_exit.there ∙ sym is_exit.taken

  -- its row is counted
  rows_more : (runs_now : List ℕ) → runs_now ≡ one_more exit.row runs → runs_now ≡ row_counts code.rows more
  rows_more runs_now is =
      is ∙ ap (one_more exit.row) way.rows ∙ ap (λ k. one_more k (row_counts code.rows way.done)) is_exit.is_next
      ∙ sym (row_counts-more code.rows way.done cycle is_exit.row is_exit.there)

  -- and its leaf, where it left by one
  leaves_more : (taken_now : List (List ℕ)) (faulted : Bool) → taken_now ≡ with_leaf faulted exit.row exit.leaf taken
      → cycle.leaf ≡ (if faulted then None else Some (exit_at code here)) → taken_now ≡ leaf_counts code.rows more
  leaves_more taken_now true is leaf = is ∙ way.leaves ∙ sym (leaf_counts-same code.rows way.done cycle leaf)
  leaves_more taken_now false is leaf =
      is ∙ ap (with_leaf false exit.row exit.leaf) way.leaves ∙ ap (λ k. with_leaf false k exit.leaf (leaf_counts code.rows way.done)) is_exit.is_next
      ∙ sym (leaf_counts-more code.rows way.done cycle is_exit.row exit.leaf (leaf_of here.state.names is_exit.row) is_exit.there leaf_there (leaf ∙ ap (λ k. Some k) exit_is))

  more_many : length more ≡ n + 1
  more_many = omega (arith, length-append way.done (cycle ∷ []), way.many)

  -- the run from here on, by its first step
  rest_of : (step : Step Cycle) → machine_step code here ≡ step
      → passages code budget start ≡ more ++ passages_after step (passages code (budget - (n + 1)))
  rest_of step is =
      way.whole ∙ ap (λ k. way.done ++ passages code k here) left
      ∙ ap (λ (st : Step Cycle). way.done ++ (cycle ∷ passages_after st (passages code (budget - (n + 1))))) is
      ∙ sym (append_assoc way.done (cycle ∷ []) (passages_after step (passages code (budget - (n + 1)))))

  -- a cycle that goes on is one more on the way
  pub goes : (event : Event) (standing : Standing) (runs_now : List ℕ) (taken_now : List (List ℕ)) → IsStep event standing (machine_step code here) → event.end ≡ None
      → runs_now ≡ one_more exit.row runs → taken_now ≡ with_leaf (has_faulted event.end) exit.row exit.leaf taken
      → Way code budget (n + 1) start (here_of standing) runs_now taken_now
  goes event standing runs_now taken_now is none rows leaves =
      let step : machine_step code here ≡ Goes (printed_by event) (here_of standing) = (event-goes event standing (machine_step code here) is none).0 in
      record {
        done = more;
        many = more_many;
        whole = rest_of (Goes (printed_by event) (here_of standing)) step;
        end = way.end ∙ ap (λ k. (run_from (machine_step code) k here).end) left
            ∙ ap (λ (st : Step Cycle). (seen_of st (run_from (machine_step code) (budget - (n + 1)))).end) step;
        rows = rows_more runs_now rows;
        leaves = leaves_more taken_now false (leaves ∙ ap (λ (o : Option End). with_leaf (has_faulted o) exit.row exit.leaf taken) none)
            (ap (leaf_left (exit_at code here)) step);
      }

  -- one that ends is the last
  pub stops : (event : Event) (standing : Standing) (e : End) (runs_now : List ℕ) (taken_now : List (List ℕ)) → IsStep event standing (machine_step code here)
      → event.end ≡ Some e → runs_now ≡ one_more exit.row runs → taken_now ≡ with_leaf (has_faulted event.end) exit.row exit.leaf taken
      → CountsRun code budget start (record { cycles = n + 1; outcome = outcome.Over e }) runs_now taken_now
  stops event standing e runs_now taken_now is some rows leaves =
      let step : machine_step code here ≡ Stops (printed_by event) e = (event-stops event standing (machine_step code here) e is some).0 in
      let all : passages code budget start ≡ more = rest_of (Stops (printed_by event) e) step ∙ append-nil more in
      record {
        cycles = sym more_many ∙ ap (λ (ps : List Passage). length ps) (sym all);
        end = sym (way.end ∙ ap (λ k. (run_from (machine_step code) k here).end) left
            ∙ ap (λ (st : Step Cycle). (seen_of st (run_from (machine_step code) (budget - (n + 1)))).end) step);
        rows = rows_more runs_now rows ∙ ap (row_counts code.rows) (sym all);
        leaves = leaves_more taken_now (is_fault e) (leaves ∙ ap (λ (o : Option End). with_leaf (has_faulted o) exit.row exit.leaf taken) some)
            (ap (leaf_left (exit_at code here)) step) ∙ ap (leaf_counts code.rows) (sym all);
      }

-- the machine goes on where no end was answered
pub event-going : (event : Event) (standing : Standing) (step : Step Cycle) → IsStep event standing step → event.end ≡ None → standing.over ≡ false
event-going event standing step is none = (event-goes event standing step is none).1

-- ---- the budget is spent

pub spent : (code : RowCode) (budget n : ℕ) (start here : Cycle) (runs : List ℕ) (taken : List (List ℕ)) → n ≡ budget → Way code budget n start here runs taken
    → CountsRun code budget start (record { cycles = budget; outcome = outcome.Going }) runs taken
spent code budget n start here runs taken is way =
    let none : budget - n ≡ 0 = omega (arith, is) in
    let all : passages code budget start ≡ way.done = way.whole ∙ ap (λ k. way.done ++ passages code k here) none ∙ append-nil way.done in
    record {
      cycles = sym is ∙ sym way.many ∙ ap (λ (ps : List Passage). length ps) (sym all);
      end = sym (way.end ∙ ap (λ k. (run_from (machine_step code) k here).end) none);
      rows = way.rows ∙ ap (row_counts code.rows) (sym all);
      leaves = way.leaves ∙ ap (leaf_counts code.rows) (sym all);
    }
