-- A trace and the run that it is of.
use Rattle.std.proofs.Common.{◌≡◌, ◌∙◌, ap, sym, refl, ℕ, zero, suc, List, [], ◌∷◌, ◌++◌, length, map, Option, Some, None}
use Rattle.std.proofs.lemmas.List.{append-nil}
use Rattle.std.specs.Prelude.{ℤ, slice_get}
use Rattle.std.specs.List.{flat_map}
use Rattle.pc_word.specs.declared.item.End.{End}
use Rattle.pc_word.specs.declared.item.Item.{Item}
use Rattle.pc_word.specs.declared.item.Item.TheVariants.{Bin, Copy, Load, Store, Print, Read, More}
use Rattle.pc_word.specs.declared.item.MachineFault.{MachineFault}
use Rattle.pc_word.specs.Commit.{fault_of, prints_of}
use Rattle.pc_word.specs.Items.{operand_value}
use Rattle.pc_word.specs.Row.{commit_of, leaf_of, path_of}
use Rattle.pc_word.specs.Run.{Step, Goes, Stops, run_from, seen_of}
use Rattle.pc_word.specs.State.{State}
use Rattle.pc_machine.specs.declared.tree.Leaf.{Leaf}
use Rattle.pc_machine.specs.declared.tree.Leaf.TheVariants.{Goto, Stop, Trap}
use Rattle.pc_machine.specs.MachineCode.{CodeRow, RowCode}
use Rattle.pc_machine.specs.MachineRun.{Cycle, after_row, machine_step, run_row}
use Rattle.pc_count.specs.Passages.{Passage, passages, passages_after}
use Rattle.pc_trace.specs.declared.deed.Deed.{Deed}
use Rattle.pc_trace.specs.Deeds.{deed_of}
use Rattle.pc_trace.specs.Laws.{EndsLast, IsTraceOf, printed_by, prints_in}
use Rattle.pc_trace.specs.Trace.{CycleDone, cycle_at, cycle_through, cycles_after, done_by, step_end, trace_of}

-- ---- as many cycles

length-after : (step : Step Cycle) (f : Cycle → List CycleDone) (g : Cycle → List Passage) → ((c : Cycle) → length (f c) ≡ length (g c))
    → length (cycles_after step f) ≡ length (passages_after step g)
length-after (Goes printed next) f g same = same next
length-after (Stops printed end) f g same = refl

pub length-trace : (code : RowCode) (n : ℕ) (start : Cycle) → length (trace_of code n start) ≡ length (passages code n start)
length-trace code zero start = refl
length-trace code (suc n) start = ap (λ k. suc k) (length-after (machine_step code start) (trace_of code n) (passages code n) (length-trace code n))

-- ---- what is printed

-- what a step prints
abbrev step_prints : Step Cycle → List ℤ
step_prints (Goes printed next) = printed
step_prints (Stops printed end) = printed

-- items print what their deeds say
deeds-print : (lengths : List ℕ) (old : State) (items : List Item) → flat_map printed_by (map (deed_of lengths old) items) ≡ prints_of old items
deeds-print lengths old [] = refl
deeds-print lengths old (Bin op dest left right ∷ items) = deeds-print lengths old items
deeds-print lengths old (Copy dest from ∷ items) = deeds-print lengths old items
deeds-print lengths old (Load dest array index ∷ items) = deeds-print lengths old items
deeds-print lengths old (Store array index value ∷ items) = deeds-print lengths old items
deeds-print lengths old (Print value ∷ items) = ap (λ (ps : List ℤ). operand_value old.names value ∷ ps) (deeds-print lengths old items)
deeds-print lengths old (Read dest ∷ items) = deeds-print lengths old items
deeds-print lengths old (More dest ∷ items) = deeds-print lengths old items

-- a path that commits or faults prints what was done of it
path-prints : (lengths : List ℕ) (old : State) (items : List Item) (leaf : Leaf) (fault : Option MachineFault)
    → flat_map printed_by (done_by (step_end (after_row (commit_of lengths old items leaf fault))) (map (deed_of lengths old) items))
    ≡ step_prints (after_row (commit_of lengths old items leaf fault))
path-prints lengths old items leaf (Some fault) = refl
path-prints lengths old items (Goto row) None = deeds-print lengths old items
path-prints lengths old items Stop None = deeds-print lengths old items
path-prints lengths old items (Trap kind line) None = deeds-print lengths old items

row-prints : (code : RowCode) (here : Cycle) (found : Option CodeRow)
    → prints_in (cycle_through code here (step_end (run_row code.arrays here.state found)) found) ≡ step_prints (run_row code.arrays here.state found)
row-prints code here (Some row) =
    let items = path_of here.state.names row in
    path-prints code.arrays here.state items (leaf_of here.state.names row) (fault_of code.arrays here.state items)
row-prints code here None = refl

after-prints : (code : RowCode) (n : ℕ) (step : Step Cycle) → ((c : Cycle) → flat_map prints_in (trace_of code n c) ≡ (run_from (machine_step code) n c).printed)
    → step_prints step ++ flat_map prints_in (cycles_after step (trace_of code n)) ≡ (seen_of step (run_from (machine_step code) n)).printed
after-prints code n (Goes printed next) same = ap (λ (ps : List ℤ). printed ++ ps) (same next)
after-prints code n (Stops printed end) same = append-nil printed

pub trace-prints : (code : RowCode) (n : ℕ) (start : Cycle) → flat_map prints_in (trace_of code n start) ≡ (run_from (machine_step code) n start).printed
trace-prints code zero start = refl
trace-prints code (suc n) start =
    ap (λ (ps : List ℤ). ps ++ flat_map prints_in (cycles_after (machine_step code start) (trace_of code n))) (row-prints code start (slice_get code.rows start.row))
    ∙ after-prints code n (machine_step code start) (trace-prints code n)

-- ---- the end

through-end : (code : RowCode) (here : Cycle) (end : Option End) (found : Option CodeRow) → (cycle_through code here end found).end ≡ end
through-end code here end (Some row) = refl
through-end code here end None = refl

-- a cycle ends as its step does
cycle-end : (code : RowCode) (here : Cycle) (step : Step Cycle) → machine_step code here ≡ step → (cycle_at code here).end ≡ step_end step
cycle-end code here step is = through-end code here (step_end (machine_step code here)) (slice_get code.rows here.row) ∙ ap step_end is

one-ends : (code : RowCode) (start : Cycle) (step : Step Cycle) → machine_step code start ≡ step
    → EndsLast (seen_of step (run_from (machine_step code) zero)).end (cycle_at code start ∷ cycles_after step (trace_of code zero))
one-ends code start (Goes printed next) is = cycle-end code start (Goes printed next) is
one-ends code start (Stops printed end) is = cycle-end code start (Stops printed end) is

more-ends : (code : RowCode) (n : ℕ) (start : Cycle) (step : Step Cycle) → machine_step code start ≡ step
    → ((c : Cycle) → EndsLast (run_from (machine_step code) (suc n) c).end (trace_of code (suc n) c))
    → EndsLast (seen_of step (run_from (machine_step code) (suc n))).end (cycle_at code start ∷ cycles_after step (trace_of code (suc n)))
more-ends code n start (Goes printed next) is rest = (cycle-end code start (Goes printed next) is, rest next)
more-ends code n start (Stops printed end) is rest = cycle-end code start (Stops printed end) is

pub trace-ends : (code : RowCode) (n : ℕ) (start : Cycle) → EndsLast (run_from (machine_step code) n start).end (trace_of code n start)
trace-ends code zero start = refl
trace-ends code (suc zero) start = one-ends code start (machine_step code start) refl
trace-ends code (suc (suc n)) start = more-ends code n start (machine_step code start) refl (trace-ends code (suc n))

-- ---- all of it

pub trace-is : (code : RowCode) (n : ℕ) (start : Cycle) → IsTraceOf code n start (trace_of code n start)
trace-is code n start = record { cycles = length-trace code n start; prints = trace-prints code n start; ends = trace-ends code n start }
