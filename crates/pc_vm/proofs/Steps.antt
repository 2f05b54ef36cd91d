-- What a cycle does is one step of the code.
use Rattle.std.proofs.Common.{◌≡◌, ℕ, ◌<◌, true, false, List, length, Option, Some, None, refl, sym, ap, ◌∙◌, subst}
use Rattle.std.proofs.lemmas.List.{length-map}
use Rattle.std.specs.Prelude.{ℤ, slice_get, option_to_list}
use Rattle.pc_word.specs.declared.item.Item.{Item}
use Rattle.pc_word.specs.declared.item.MachineFault.{MachineFault}
use Rattle.pc_word.specs.declared.item.End.TheVariants as end
use Rattle.pc_machine.specs.declared.code.Code.{Code}
use Rattle.pc_machine.specs.declared.tree.Leaf.{Leaf}
use Rattle.pc_machine.specs.declared.tree.Leaf.TheVariants.{Goto, Stop, Trap}
use Rattle.pc_machine.specs.MachineCode.{CodeRow, row_of, rows_of, code_of}
use Rattle.pc_word.specs.State.{State}
use Rattle.pc_word.specs.Row.{path_of, leaf_of, RowOutcome, Faults, Commits, commit_of, row_step}
use Rattle.pc_word.specs.Commit.{fault_of}
use Rattle.pc_machine.specs.MachineRun.{follow_leaf, after_row, run_row, machine_step}
use Rattle.pc_machine.specs.WellFormed.{IsLeaf, WellFormed}
use Rattle.pc_machine.proofs.Paths.{next_row_stands}
use Rattle.pc_vm.specs.declared.event.Event.{Event}
use Rattle.pc_vm.specs.models.Made.{lengths_of}
use Rattle.pc_vm.specs.Contents.{state_of}
use Rattle.pc_vm.specs.Standing.{Standing, here_of, printed_by, IsStep}
use Rattle.pc_vm.specs.models.Moves.{event_of, moved}

-- the step of a code at a row that it has
step-row : (standing : Standing) (row : CodeRow) (outcome : RowOutcome Leaf) → slice_get (rows_of standing.code.rows) standing.row ≡ Some row → lengths_of standing.held.cells ≡ standing.code.arrays
    → outcome ≡ row_step (lengths_of standing.held.cells) row (state_of standing.held) → machine_step (code_of standing.code) (here_of standing) ≡ after_row outcome
step-row standing row outcome at lengths is =
    ap (λ (found : Option CodeRow). run_row standing.code.arrays (state_of standing.held) found) at
    ∙ ap (λ (ls : List ℕ). after_row (row_step ls row (state_of standing.held))) (sym lengths)
    ∙ ap (λ (o : RowOutcome Leaf). after_row o) (sym is)

-- a row that faults ends the run
pub step-faults : (standing : Standing) (row : CodeRow) (fault : MachineFault) (event : Event) (new : Standing)
    → slice_get (rows_of standing.code.rows) standing.row ≡ Some row → lengths_of standing.held.cells ≡ standing.code.arrays
    → Faults fault ≡ row_step (lengths_of standing.held.cells) row (state_of standing.held)
    → event ≡ record { printed = None; end = Some (end.Fault fault) } → new.over ≡ true
    → IsStep event new (machine_step (code_of standing.code) (here_of standing))
step-faults standing row fault event new at lengths is is_event over =
    subst (IsStep event new) (sym (step-row standing row (Faults fault) at lengths is))
    (ap (λ (e : Event). printed_by e) is_event, ap (λ (e : Event). e.end) is_event, over)

-- what a row that is done does at its leaf
leaf-followed : (leaf : Leaf) (printed : Option ℤ) (standing : Standing) → standing.over ≡ false
    → IsStep (event_of printed leaf) (moved leaf standing) (follow_leaf (option_to_list printed) (state_of standing.held) leaf)
leaf-followed (Goto row) printed standing going = (refl, refl, going, refl)
leaf-followed Stop printed standing going = (refl, refl, refl)
leaf-followed (Trap kind line) printed standing going = (refl, refl, refl)

-- a row that is done goes where its leaf leads to
pub step-done : (standing after : Standing) (row : CodeRow) (printed : Option ℤ) (leaf : Leaf) (event : Event) (new : Standing)
    → slice_get (rows_of standing.code.rows) standing.row ≡ Some row → lengths_of standing.held.cells ≡ standing.code.arrays
    → Commits (option_to_list printed) (state_of after.held) leaf ≡ row_step (lengths_of standing.held.cells) row (state_of standing.held)
    → after.over ≡ false → event ≡ event_of printed leaf → new ≡ moved leaf after
    → IsStep event new (machine_step (code_of standing.code) (here_of standing))
step-done standing after row printed leaf event new at lengths is going is_event is_new =
    subst (IsStep event new) (sym (step-row standing row (Commits (option_to_list printed) (state_of after.held) leaf) at lengths is))
    (subst (λ (e : Event). IsStep e new (follow_leaf (option_to_list printed) (state_of after.held) leaf)) (sym is_event)
    (subst (λ (s : Standing). IsStep (event_of printed leaf) s (follow_leaf (option_to_list printed) (state_of after.held) leaf)) (sym is_new)
    (leaf-followed leaf printed after going)))

-- the leaf of a row that is done is that of its path
done-leaf : (lengths : List ℕ) (old : State) (items : List Item) (leaf reached : Leaf) (printed : List ℤ) (new : State) (fault : Option MachineFault)
    → Commits printed new reached ≡ commit_of lengths old items leaf fault → leaf ≡ reached
done-leaf lengths old items leaf reached printed new None e = cc
done-leaf lengths old items leaf reached printed new (Some fault) e = cc

-- the row that it leads to is there
pub leads-within : (code : Code) (i : ℕ) (tree : CodeRow) (old : State) (leaf : Leaf) (printed : List ℤ) (new : State) (lengths : List ℕ)
    → WellFormed (code_of code) → slice_get (rows_of code.rows) i ≡ Some tree → Commits printed new leaf ≡ row_step lengths tree old → IsLeaf (length code.rows) leaf
leads-within code i tree old (Goto row) printed new lengths well at is =
    let leads : leaf_of old.names tree ≡ Goto row = done-leaf lengths old (path_of old.names tree) (leaf_of old.names tree) (Goto row) printed new
    (fault_of lengths old (path_of old.names tree)) is in
    subst (λ (n : ℕ). row < n) (length-map code.rows row_of) (next_row_stands (code_of code) well old.names i row tree at leads)
leads-within code i tree old Stop printed new lengths well at is = tt
leads-within code i tree old (Trap kind line) printed new lengths well at is = tt
