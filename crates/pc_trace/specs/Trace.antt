-- What each cycle of a run does.
use Rattle.std.specs.Prelude.{◌≡◌, ℕ, zero, suc, ℤ, Bool, true, false, if◌then◌else◌, List, [], ◌∷◌, map, Option, Some, None, slice_get}
use Rattle.pc_word.specs.declared.item.End.{End}
use Rattle.pc_word.specs.declared.item.End.TheVariants.{Ended, Trapped, Fault}
use Rattle.pc_word.specs.Items.{operand_value}
use Rattle.pc_word.specs.Row.{Row, Then, Either, At_leaf, path_of}
use Rattle.pc_word.specs.Run.{Step, Goes, Stops}
use Rattle.pc_word.specs.Word.{holds}
use Rattle.pc_machine.specs.MachineCode.{CodeRow, RowCode}
use Rattle.pc_machine.specs.MachineRun.{Cycle, machine_step}
use Rattle.pc_vm.specs.Standing.{Standing, here_of}
use Rattle.pc_trace.specs.declared.cycle.TracedCycle.{TracedCycle}
use Rattle.pc_trace.specs.declared.deed.Deed.{Deed}
use Rattle.pc_trace.specs.Deeds.{deed_of}

-- what a cycle did: the row in which it began, the sides that it took at the tests of its path, what the items of its path did, and how
-- it ended the run, if it did
pub record CycleDone : Type 0 where
  pub row : ℕ
  pub sides : List Bool
  pub deeds : List Deed
  pub end : Option End

-- for each test on the path that is taken, in order, whether yes is taken
abbrev pub sides_of : {L : Type 0} → (ℕ → ℤ) → Row L → List Bool
sides_of names (Then item rest) = sides_of names rest
sides_of names (Either on on_yes on_no) =
    if holds (operand_value names on) then true ∷ sides_of names on_yes else false ∷ sides_of names on_no
sides_of names (At_leaf leaf) = []

-- the end to which a step comes, if it comes to one
abbrev pub step_end : Step Cycle → Option End
step_end (Goes printed next) = None
step_end (Stops printed end) = Some end

-- what was done of what the items of a path do: nothing, where the machine faulted
abbrev pub done_by : Option End → List Deed → List Deed
done_by None deeds = deeds
done_by (Some Ended) deeds = deeds
done_by (Some (Trapped kind line)) deeds = deeds
done_by (Some (Fault fault)) deeds = []

-- a cycle that comes to this end, through its row, if there is one
abbrev pub cycle_through : RowCode → Cycle → Option End → Option CodeRow → CycleDone
cycle_through code here end (Some row) = record {
  row = here.row;
  sides = sides_of here.state.names row;
  deeds = done_by end (map (deed_of code.arrays here.state) (path_of here.state.names row));
  end = end;
}
cycle_through code here end None = record { row = here.row; sides = []; deeds = []; end = end }

-- the cycle that begins at a place
abbrev pub cycle_at : RowCode → Cycle → CycleDone
cycle_at code here = cycle_through code here (step_end (machine_step code here)) (slice_get code.rows here.row)

-- what follows a step: nothing, where it ends the run
abbrev pub cycles_after : Step Cycle → (Cycle → List CycleDone) → List CycleDone
cycles_after (Goes printed next) rest = rest next
cycles_after (Stops printed end) rest = []

-- the cycles of the run from a place, in order: at most n
abbrev pub trace_of : RowCode → ℕ → Cycle → List CycleDone
trace_of code zero here = []
trace_of code (suc n) here = cycle_at code here ∷ cycles_after (machine_step code here) (trace_of code n)

-- a cycle in memory, as plain data
abbrev pub cycle_of : TracedCycle → CycleDone
cycle_of cycle = record { row = cycle.row; sides = cycle.sides.items; deeds = cycle.deeds.items; end = cycle.end }

-- a machine stands where a step leads to, and the step comes to this end, if to one
abbrev pub Moves : Option End → Standing → Step Cycle → Type 0
Moves end new (Goes printed next) = (end ≡ None) × (new.over ≡ false) × (here_of new ≡ next)
Moves end new (Stops printed last) = (end ≡ Some last) × (new.over ≡ true)
