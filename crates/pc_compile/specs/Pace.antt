-- That a code keeps pace with a schedule.
use Rattle.std.specs.Prelude.{ℕ, ℤ, List, Option}
use Rattle.pc_word.specs.Run.{Answers}
use Rattle.pc_table.specs.Table.{Table}
use Rattle.pc_machine.specs.MachineCode.{RowCode}
use Rattle.pc_machine.specs.MachineRun.{machine_run}
use Rattle.pc_emit.specs.Emitted.{RegionForm}
use Rattle.pc_compile.specs.ScheduleRun.{schedule_run, schedule_cost}

-- on this input, a code has shown after the cycles that so many steps of the schedule may cost at least what the schedule has shown
-- after them: while the schedule goes on, the beginning of what the code has printed, and where it has ended, the same end
abbrev pub KeepsPaceOn : Table → (ℕ → Option RegionForm) → RowCode → List ℤ → Type 0
KeepsPaceOn table forms code input =
    (n : ℕ) → Answers (schedule_run table forms code.initial input n)
    (machine_run code input (schedule_cost table forms code.limits.ops code.initial input n)) (schedule_run table forms code.initial input n).end
