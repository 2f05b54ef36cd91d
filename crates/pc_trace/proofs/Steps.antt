-- A cycle that was run and the step that it was.
use Rattle.std.proofs.Common.{◌≡◌, ◌∙◌, ap, arith, get_or, subst, sym, ℕ, ◌<◌, List, length, map, Option, Some, None}
use Rattle.std.proofs.lemmas.List.{length-map}
use Rattle.std.proofs.lemmas.Option.{slice_get_within}
use Rattle.std.specs.Prelude.{slice_get}
use Rattle.pc_word.specs.declared.row_tree.RowTree.{RowTree}
use Rattle.pc_machine.specs.declared.tree.Leaf.{Leaf}
use Rattle.pc_machine.specs.WellFormed.{WellFormed}
use Rattle.pc_vm.specs.declared.exit.Exit.{Exit}
use Rattle.pc_vm.specs.Exits.{IsExit}
use Rattle.pc_vm.specs.models.RowResult.{IsRunnable}
use Rattle.pc_vm.proofs.Rows.{code-runnable, row-at}
use Rattle.pc_word.specs.declared.item.End.{End}
use Rattle.pc_word.specs.Row.{path_of}
use Rattle.pc_word.specs.Run.{Step, Goes, Stops}
use Rattle.pc_machine.specs.MachineCode.{RowCode, code_of, row_of, rows_of}
use Rattle.pc_machine.specs.MachineRun.{Cycle, machine_step}
use Rattle.pc_vm.specs.declared.event.Event.{Event}
use Rattle.pc_vm.specs.Standing.{Standing, IsStep, here_of}
use Rattle.pc_trace.specs.declared.cycle.Walk.{Walk}
use Rattle.pc_trace.specs.declared.deed.Deed.{Deed}
use Rattle.pc_trace.specs.Deeds.{deed_of}
use Rattle.pc_trace.specs.Trace.{CycleDone, Moves, cycle_at, cycle_through, done_by, sides_of, step_end}
use Rattle.pc_trace.specs.models.Walked.{IsWalk}

-- the end that an event tells is that of its step
pub event-end : (event : Event) (new : Standing) (step : Step Cycle) → IsStep event new step → event.end ≡ step_end step
event-end event new (Goes printed next) is = is.1
event-end event new (Stops printed end) is = is.1

-- the machine stands where the step leads to
pub event-moves : (event : Event) (new : Standing) (step : Step Cycle) → IsStep event new step → Moves event.end new step
event-moves event new (Goes printed next) is = (is.1, is.2, is.3)
event-moves event new (Stops printed end) is = (is.1, is.2)

-- what was done on a path that was followed before the step is what the cycle did
pub walk-told : (code : RowCode) (here : Cycle) (walk : Walk) (event : Event) (new : Standing) → IsWalk code here walk → IsStep event new (machine_step code here)
    → ◌≡◌ {A = CycleDone} (record { row = walk.row; sides = walk.sides.items; deeds = done_by event.end walk.deeds.items; end = event.end }) (cycle_at code here)
walk-told code here walk event new is step = as_one ∙ sym (ap (cycle_through code here (step_end (machine_step code here))) is.there)
  where
    end : event.end ≡ step_end (machine_step code here)
    end = event-end event new (machine_step code here) step

    all : List Deed
    all = map (deed_of code.arrays here.state) (path_of here.state.names is.through)

    did : done_by event.end walk.deeds.items ≡ done_by (step_end (machine_step code here)) all
    did = ap (done_by event.end) is.deeds ∙ ap (λ (e : Option End). done_by e all) end

    as_one : ◌≡◌ {A = CycleDone} (record { row = walk.row; sides = walk.sides.items; deeds = done_by event.end walk.deeds.items; end = event.end })
        (cycle_through code here (step_end (machine_step code here)) (Some is.through))
    as_one = λ i. record { row = is.number i; sides = is.sides i; deeds = did i; end = end i }

-- ---- the row that comes next

-- the tree that was found by its number is the row there
pub tree-there : (standing : Standing) (exit : Exit) (shown : List (RowTree Leaf)) (tree : RowTree Leaf) → IsExit (code_of standing.code) (here_of standing) exit
    → shown ≡ standing.code.rows → tree ≡ get_or shown exit.row tree → slice_get (rows_of standing.code.rows) standing.row ≡ Some (row_of tree)
tree-there standing exit shown tree is same at =
    row-at standing.code.rows shown standing.row tree same within (subst (λ (i : ℕ). tree ≡ get_or shown i tree) is.is_next at)
  where
    within : standing.row < length standing.code.rows
    within = omega (arith, slice_get_within (rows_of standing.code.rows) standing.row is.row is.there, length-map standing.code.rows row_of)

-- it can be run
pub tree-runnable : (standing : Standing) (exit : Exit) (shown : List (RowTree Leaf)) (tree : RowTree Leaf) → WellFormed (code_of standing.code)
    → IsExit (code_of standing.code) (here_of standing) exit → shown ≡ standing.code.rows → tree ≡ get_or shown exit.row tree
    → IsRunnable (length standing.code.arrays) (row_of tree)
tree-runnable standing exit shown tree well is same at =
    code-runnable (code_of standing.code) standing.row (row_of tree) well (tree-there standing exit shown tree is same at)

-- and what was followed through it is the next cycle's path
pub tree-walk : (standing : Standing) (exit : Exit) (shown : List (RowTree Leaf)) (tree : RowTree Leaf) (walk : Walk)
    → IsExit (code_of standing.code) (here_of standing) exit → shown ≡ standing.code.rows → tree ≡ get_or shown exit.row tree
    → walk.row ≡ exit.row → walk.sides.items ≡ sides_of (here_of standing).state.names (row_of tree)
    → walk.deeds.items ≡ map (deed_of standing.code.arrays (here_of standing).state) (path_of (here_of standing).state.names (row_of tree))
    → IsWalk (code_of standing.code) (here_of standing) walk
tree-walk standing exit shown tree walk is same at number sides deeds = record {
  through = row_of tree;
  number = number ∙ is.is_next;
  there = tree-there standing exit shown tree is same at;
  sides = sides;
  deeds = deeds;
}
