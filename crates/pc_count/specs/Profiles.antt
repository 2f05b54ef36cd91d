-- Profiles of runs.
use Rattle.std.specs.Prelude.{◌≡◌, ℕ, ◌≤◌, ◌*◌}
use Rattle.pc_word.specs.MachineLimits.{most_cycles, most_ops, most_tests}
use Rattle.pc_machine.specs.MachineCode.{RowCode}
use Rattle.pc_machine.specs.MachineRun.{Cycle}
use Rattle.pc_machine.specs.WellFormed.{WellFormed}
use Rattle.pc_count.specs.Counts.{RunProfile, run_profile}
use Rattle.pc_count.specs.declared.work.Work.{Work}

-- the profile is that of a run of a well-formed code, of no more cycles than a run may take
pub record IsProfileOf (code : RowCode) (profile : RunProfile) : Type 0 where
  pub well : WellFormed code
  pub most : ℕ
  pub start : Cycle
  pub few : most ≤ most_cycles
  pub is : profile ≡ run_profile code most start

-- no more was done than may be done in so many cycles
pub record IsWorkOf (many : ℕ) (work : Work) : Type 0 where
  pub cycles : work.cycles ≤ many
  pub items : work.items ≤ most_ops * many
  pub tests : work.tests ≤ most_tests * many
  pub memory : work.memory ≤ most_ops * many
  pub prints : work.prints ≤ most_ops * many
  pub reads : work.reads ≤ most_ops * many
