-- The cycles of a run, one after the other.
use Rattle.std.specs.Prelude.{ℕ, zero, suc, Bool, true, false, if◌then◌else◌, List, [], ◌∷◌, Option, Some, None, option_map, slice_get, unwrap_or}
use Rattle.pc_word.specs.declared.item.End.{End}
use Rattle.pc_word.specs.declared.item.End.TheVariants.{Ended, Fault, Trapped}
use Rattle.pc_word.specs.Run.{Step, Goes, Stops}
use Rattle.pc_machine.specs.MachineCode.{RowCode}
use Rattle.pc_machine.specs.MachineRun.{Cycle, machine_step}
use Rattle.pc_vm.specs.Exits.{exit_number}

-- a cycle: the row in which it began, and the leaf by which it left the row, if it did not fault
pub record Passage : Type 0 where
  pub row : ℕ
  pub leaf : Option ℕ

-- whether the machine faulted
abbrev pub is_fault : End → Bool
is_fault Ended = false
is_fault (Trapped kind line) = false
is_fault (Fault fault) = true

-- the leaf by which a step leaves, which is this one unless it faults
abbrev pub leaf_left : ℕ → Step Cycle → Option ℕ
leaf_left leaf (Goes printed next) = Some leaf
leaf_left leaf (Stops printed end) = if is_fault end then None else Some leaf

-- the number of the leaf to which a place leads in its row
abbrev pub exit_at : RowCode → Cycle → ℕ
exit_at code here = unwrap_or (option_map (exit_number here.state.names) (slice_get code.rows here.row)) 0

-- the cycle that begins at a place
abbrev pub passage_at : RowCode → Cycle → Passage
passage_at code here = record { row = here.row; leaf = leaf_left (exit_at code here) (machine_step code here) }

-- what follows a step: nothing, where it ends the run
abbrev pub passages_after : Step Cycle → (Cycle → List Passage) → List Passage
passages_after (Goes printed next) rest = rest next
passages_after (Stops printed end) rest = []

-- the cycles of the run from a place, in order: at most n
abbrev pub passages : RowCode → ℕ → Cycle → List Passage
passages code zero here = []
passages code (suc n) here = passage_at code here ∷ passages_after (machine_step code here) (passages code n)
