-- The cycles of a run begin in rows and leave by leaves that are there.
use Rattle.std.proofs.Common.{◌≡◌, ℕ, zero, suc, ◌<◌, Bool, true, false, List, length, Option, Some, None, refl, ap, sym, ◌∙◌, subst}
use Rattle.std.proofs.lemmas.Bool.{eqb-true}
use Rattle.std.proofs.lemmas.Option.{slice_get_within}
use Rattle.std.specs.Prelude.{ℤ, if◌then◌else◌, slice_get}
use Rattle.std.specs.List.{AllByRecursion}
use Rattle.pc_word.specs.declared.item.Item.{Item}
use Rattle.pc_word.specs.declared.item.MachineFault.{MachineFault}
use Rattle.pc_word.specs.Commit.{fault_of}
use Rattle.pc_word.specs.Row.{commit_of, leaf_of, leaves_of, path_of}
use Rattle.pc_word.specs.Run.{Step, Goes, Stops}
use Rattle.pc_word.specs.State.{State}
use Rattle.pc_machine.specs.declared.tree.Leaf.{Leaf}
use Rattle.pc_machine.specs.declared.tree.Leaf.TheVariants.{Goto, Stop, Trap}
use Rattle.pc_machine.specs.MachineCode.{CodeRow, RowCode}
use Rattle.pc_machine.specs.MachineRun.{Cycle, after_row, follow_leaf, machine_step, run_row}
use Rattle.pc_machine.specs.WellFormed.{WellFormed}
use Rattle.pc_machine.proofs.Paths.{next_row_stands}
use Rattle.pc_vm.specs.Exits.{exit_number}
use Rattle.pc_count.specs.Passages.{exit_at, is_fault, leaf_left, passage_at, passages, passages_after}
use Rattle.pc_count.specs.Counts.{begins_in}
use Rattle.pc_count.specs.Laws.{LeavesAddUp, RowsAddUp}
use Rattle.pc_count.proofs.Cycles.{exit-leaf, exit-there}
use Rattle.pc_count.proofs.Sums.{leaves-add_up, rows-add_up}

-- ---- rows

-- the row that a leaf leads to
followed-within : (code : RowCode) (names : ℕ → ℤ) (i : ℕ) (row : CodeRow) → WellFormed code → slice_get code.rows i ≡ Some row
    → (leaf : Leaf) → leaf_of names row ≡ leaf → (out printed : List ℤ) (new : State) (next : Cycle) → follow_leaf out new leaf ≡ Goes printed next
    → next.row < length code.rows
followed-within code names i row well at (Goto target) leads out printed new next is =
    let same : target ≡ next.row = cc in
    subst (λ k. k < length code.rows) same (next_row_stands code well names i target row at leads)
followed-within code names i row well at Stop leads out printed new next is = absurd (cc)
followed-within code names i row well at (Trap kind line) leads out printed new next is = absurd (cc)

-- the row that comes after a row
done-within : (code : RowCode) (state : State) (i : ℕ) (row : CodeRow) → WellFormed code → slice_get code.rows i ≡ Some row
    → (fault : Option MachineFault) (items : List Item) (printed : List ℤ) (next : Cycle)
    → after_row (commit_of code.arrays state items (leaf_of state.names row) fault) ≡ Goes printed next → next.row < length code.rows
done-within code state i row well at (Some fault) items printed next is = absurd (cc)
done-within code state i row well at None items printed next is =
    followed-within code state.names i row well at (leaf_of state.names row) refl _ printed _ next is

found-within : (code : RowCode) (here : Cycle) → WellFormed code → (found : Option CodeRow) → slice_get code.rows here.row ≡ found → (printed : List ℤ) (next : Cycle)
    → run_row code.arrays here.state found ≡ Goes printed next → next.row < length code.rows
found-within code here well None at printed next is = absurd (cc)
found-within code here well (Some row) at printed next is =
    done-within code here.state here.row row well at (fault_of code.arrays here.state (path_of here.state.names row)) (path_of here.state.names row) printed next is

-- each cycle began in a row that is there
rows-within : (code : RowCode) → WellFormed code → (n : ℕ) (here : Cycle) → here.row < length code.rows
    → AllByRecursion (λ cycle. cycle.row < length code.rows) (passages code n here)
rows-within code well zero here within = tt
rows-within code well (suc n) here within = (within, by (machine_step code here) refl (λ next. rows-within code well n next))
  where
    by : (step : Step Cycle) → machine_step code here ≡ step
        → ((next : Cycle) → next.row < length code.rows → AllByRecursion (λ cycle. cycle.row < length code.rows) (passages code n next))
        → AllByRecursion (λ cycle. cycle.row < length code.rows) (passages_after step (passages code n))
    by (Goes printed next) is rest = rest next (found-within code here well (slice_get code.rows here.row) refl printed next is)
    by (Stops printed end) is rest = tt

pub rows-law : RowsAddUp
rows-law code n here well within = rows-add_up code.rows (passages code n here) (rows-within code well n here within)

-- ---- leaves

-- a leaf that was left by is the one to which the place led
left-is : (exit taken : ℕ) (step : Step Cycle) → leaf_left exit step ≡ Some taken → taken ≡ exit
left-is exit taken (Goes printed next) is = cc
left-is exit taken (Stops printed end) is = by (is_fault end) is
  where
    by : (b : Bool) → (if b then None else Some exit) ≡ Some taken → taken ≡ exit
    by true e = absurd (cc)
    by false e = cc

-- each cycle that began in a row left it by a leaf that is there
leaves-within : (code : RowCode) (number : ℕ) (row : CodeRow) → slice_get code.rows number ≡ Some row → (n : ℕ) (here : Cycle)
    → AllByRecursion (λ cycle. begins_in number cycle ≡ true → (leaf : ℕ) → cycle.leaf ≡ Some leaf → leaf < length (leaves_of row)) (passages code n here)
leaves-within code number row at zero here = tt
leaves-within code number row at (suc n) here = (first, by (machine_step code here) (λ next. leaves-within code number row at n next))
  where
    first : begins_in number (passage_at code here) ≡ true → (leaf : ℕ) → (passage_at code here).leaf ≡ Some leaf → leaf < length (leaves_of row)
    first begins leaf is =
        let same : here.row ≡ number = eqb-true here.row number begins in
        let there : slice_get code.rows here.row ≡ Some row = ap (λ k. slice_get code.rows k) same ∙ at in
        let number_is : leaf ≡ exit_number here.state.names row = left-is (exit_at code here) leaf (machine_step code here) is ∙ exit-there code here row there in
        subst (λ k. k < length (leaves_of row)) (sym number_is)
        (slice_get_within (leaves_of row) (exit_number here.state.names row) (leaf_of here.state.names row) (exit-leaf here.state.names row))

    by : (step : Step Cycle)
        → ((next : Cycle) → AllByRecursion (λ cycle. begins_in number cycle ≡ true → (leaf : ℕ) → cycle.leaf ≡ Some leaf → leaf < length (leaves_of row)) (passages code n next))
        → AllByRecursion (λ cycle. begins_in number cycle ≡ true → (leaf : ℕ) → cycle.leaf ≡ Some leaf → leaf < length (leaves_of row)) (passages_after step (passages code n))
    by (Goes printed next) rest = rest next
    by (Stops printed end) rest = tt

pub leaves-law : LeavesAddUp
leaves-law code n here number row at = leaves-add_up row number (passages code n here) (leaves-within code number row at n here)
