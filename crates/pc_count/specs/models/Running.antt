-- What the loop that runs a machine leaves.
use Rattle.std.specs.Prelude.{◌≡◌, ℕ, List, length}
use Rattle.pc_word.specs.Run.{run_from}
use Rattle.pc_machine.specs.MachineCode.{RowCode}
use Rattle.pc_machine.specs.MachineRun.{Cycle, machine_step}
use Rattle.pc_vm.specs.Standing.{end_of}
use Rattle.pc_count.specs.Counts.{leaf_counts, row_counts}
use Rattle.pc_count.specs.Passages.{passages}
use Rattle.pc_count.specs.declared.running.Ending.{Ending}

-- the cycles of the run are told and counted
pub record CountsRun (code : RowCode) (budget : ℕ) (here : Cycle) (ending : Ending) (runs : List ℕ) (taken : List (List ℕ)) : Type 0 where
  pub cycles : ending.cycles ≡ length (passages code budget here)
  pub end : end_of ending.outcome ≡ (run_from (machine_step code) budget here).end
  pub rows : runs ≡ row_counts code.rows (passages code budget here)
  pub leaves : taken ≡ leaf_counts code.rows (passages code budget here)
