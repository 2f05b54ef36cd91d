-- What is simulated: an object on an input.
use Rattle.std.specs.Prelude.{ℕ, ℤ, List, Option, Some, None}
use Rattle.pc_word.specs.declared.item.End.{End}
use Rattle.pc_word.specs.declared.item.End.TheVariants.{Ended, Fault, Trapped}
use Rattle.pc_word.specs.Run.{Seen}
use Rattle.pc_machine.specs.MachineRun.{machine_run}
use Rattle.pc_object.specs.ObjectText.{CodeWithNotes}
use Rattle.pc_command.specs.Requests.{SimulateRequest}
use Rattle.pc_report.specs.declared.fault.ToolFault.{ToolFault}
use Rattle.pc_report.specs.declared.fault.ToolFault.TheVariants as fault

-- what is due at a run's end, nothing where it ended by itself; a run whose cycles are spent goes on
abbrev pub due_of : ℕ → Option End → Option ToolFault
due_of cycles (Some Ended) = None
due_of cycles (Some (Trapped kind line)) = Some (fault.Trap kind line)
due_of cycles (Some (Fault why)) = Some (fault.Machine why)
due_of cycles None = Some (fault.Budget cycles)

-- what is seen of the run of an object on numbers, for the cycles that are asked for
abbrev pub run_seen : SimulateRequest → CodeWithNotes → List ℤ → Seen
run_seen request object numbers = machine_run object.code numbers request.cycles
