-- How the simulator ends, put together from what its steps leave.
use Rattle.std.proofs.Common.{◌≡◌, ℕ, ◌+◌, ◌⊎◌, inl, inr, List, Option, Some, None, refl, sym, ◌∙◌, ap, subst}
use Rattle.std.specs.Prelude.{ℤ, IsSome}
use Rattle.std.specs.Io.KnownBytes.{Appends}
use Rattle.pc_word.specs.declared.item.End.{End}
use Rattle.pc_word.specs.Count.{Rose}
use Rattle.pc_word.specs.NumberText.{text_of}
use Rattle.pc_word.specs.Run.{Seen, run_from}
use Rattle.pc_machine.specs.MachineCode.{code_of}
use Rattle.pc_machine.specs.MachineRun.{machine_step}
use Rattle.pc_object.specs.ObjectText.{CodeWithNotes}
use Rattle.pc_outside.specs.Shelf.{Shelved, ReadFaultOf, ReadKeeps}
use Rattle.pc_outside.specs.Stream.{AppendsPart, LosesFront}
use Rattle.pc_word.specs.MachineLimits.{most_input}
use Rattle.pc_command.specs.Requests.{SimulateRequest}
use Rattle.pc_report.specs.declared.fault.Speaker.TheVariants.{Pvm}
use Rattle.pc_report.specs.declared.fault.ToolFault.{ToolFault}
use Rattle.pc_report.specs.declared.fault.ToolFault.TheVariants as fault
use Rattle.pc_vm.specs.Standing.{Standing, here_of}
use Rattle.pc_driver.specs.Due.{Told}
use Rattle.pc_driver.specs.Objects.{HoldsObject}
use Rattle.pc_driver.specs.Streams.{Streamed}
use Rattle.pc_driver.specs.Outside.{Outside}
use Rattle.pc_driver.specs.Input.{Loaded}
use Rattle.pc_simulator.specs.Simulation.{due_of, run_seen}
use Rattle.pc_simulator.specs.Simulator.{SimulatorEnds, Ran, Misused, Unread, Refused, Untaken, Misspelt, Broke, Lacking}
use Rattle.pc_simulator.specs.Simulator.{SimulatorLacks, Untouched, Loading, Telling, SimulatorPromise}
use Rattle.pc_driver.specs.declared.stop.Stop.{Stop}
use Rattle.pc_driver.specs.declared.stop.Stop.TheVariants as stop
use Rattle.pc_driver.specs.Stops.{StopsAtInput, StopsAtObject, StopsEarly, StopEnds, Due_memory, Due_object_read, Due_object, Due_input_read, Due_input}
use Rattle.pc_simulator.specs.models.Simulating.{Ready, RunEnds, Told_whole, Told_part}
use Rattle.pc_driver.proofs.Streams.{sends_all, sends_part}

-- ---- each step

-- nothing was touched, for want of memory
pub no_memory_ends : (given : Option SimulateRequest) (old : Shelved) (input out : Streamed) → SimulatorEnds old old input input out out given (Some (fault.NoMemory Pvm))
no_memory_ends given old input out = Lacking (Untouched refl refl)

-- the words are no command
pub no_command_ends : (given : Option SimulateRequest) (old : Shelved) (input out : Streamed) → given ≡ None
    → SimulatorEnds old old input input out out given (Some (fault.Usage Pvm))
no_command_ends given old input out none =
    subst (λ (g : Option SimulateRequest). SimulatorEnds old old input input out out g (Some (fault.Usage Pvm))) (sym none) (Misused refl refl refl)

module _ (request : SimulateRequest) (old new : Shelved) (input input_now out : Streamed) where
  -- no object was loaded
  object_ends : (why : Stop) (due : ToolFault) → StopsAtObject request.object old new why → input_now ≡ input → StopEnds Pvm request.object why due
      → SimulatorEnds old new input input_now out out (Some request) (Some due)
  object_ends stop.Memory due h same Due_memory = Lacking (Untouched same refl)
  object_ends stop.ReadObject due h same (Due_object_read {word} is) = Unread is (subst (λ name. ReadFaultOf old new name) is h) same refl
  object_ends (stop.Object what) due h same Due_object = Refused h same refl
  object_ends stop.ReadInput due h same ends = absurd h
  object_ends (stop.Input what) due h same ends = absurd h

  -- an object was, and the input gave no numbers
  input_ends : (why : Stop) (due : ToolFault) → HoldsObject old.held request.object → StopsAtInput input input_now why → StopEnds Pvm request.object why due
      → SimulatorEnds old new input input_now out out (Some request) (Some due)
  input_ends stop.Memory due object h Due_memory = Lacking (Loading object refl)
  input_ends stop.ReadInput due object h Due_input_read = Untaken object h refl
  input_ends (stop.Input what) due object h Due_input = Misspelt object h refl
  input_ends stop.ReadObject due object h ends = absurd h
  input_ends (stop.Object what) due object h ends = absurd h

  -- there was no run
  pub stop_ends : (why : Stop) (due : ToolFault) → StopsEarly request.object old new input input_now why → StopEnds Pvm request.object why due
      → SimulatorEnds old new input input_now out out (Some request) (Some due)
  stop_ends why due (inl h) ends = object_ends why due h.0 h.1 ends
  stop_ends why due (inr h) ends = input_ends why due h.0 h.1 ends

module _ (request : SimulateRequest) (old new : Shelved) (input input_now out out_now : Streamed) (machine : Standing) where
  -- what is seen of the machine is what is seen of the object
  same_seen : (ready : Ready request.object old.held input.told machine)
      → run_from (machine_step (code_of machine.code)) request.cycles (here_of machine) ≡ run_seen request ready.object ready.placed.numbers
  same_seen ready = rw (ready.placed.runs, ready.placed.start) refl

  seen_ends : (due : Option ToolFault) (object : CodeWithNotes) (numbers : List ℤ) → Loaded request.object old.held input.told object numbers
      → RunEnds request.cycles (run_seen request object numbers) out out_now due
      → SimulatorEnds old new input input_now out out_now (Some request) due
  seen_ends due object numbers loaded (Told_whole sent is) = Ran loaded sent is
  seen_ends due object numbers loaded (Told_part rose part) = Broke loaded rose part

  -- there was a run
  pub run_ends : (due : Option ToolFault) → Ready request.object old.held input.told machine
      → RunEnds request.cycles (run_from (machine_step (code_of machine.code)) request.cycles (here_of machine)) out out_now due
      → SimulatorEnds old new input input_now out out_now (Some request) due
  run_ends due ready ends =
      seen_ends due ready.object ready.placed.numbers (record { in_file = ready.in_file; in_input = ready.placed.in_input })
      (subst (λ (seen : Seen). RunEnds request.cycles seen out out_now due) (same_seen ready) ends)

-- ---- what is due after a run

pub run_whole : (cycles : ℕ) (seen : Seen) (old new : Streamed) (due : Option ToolFault) (end : Option End) → Appends old.told new.told (text_of seen.printed)
    → due ≡ due_of cycles end → end ≡ seen.end → RunEnds cycles seen old new due
run_whole cycles seen old new due end sent is same = Told_whole sent (is ∙ ap (due_of cycles) same)

pub run_part : (cycles : ℕ) (seen : Seen) (old new : Streamed) → Rose old.faults new.faults → AppendsPart old.told new.told (text_of seen.printed)
    → RunEnds cycles seen old new (Some (fault.WriteOutput Pvm))
run_part cycles seen old new rose part = Told_part rose part

pub ruleset runs_due = (run_whole, run_part)

-- ---- no memory for a line

-- where something is due, what stands is what may stand where memory ran out
pub ends_lacking : (given : Option SimulateRequest) (old new : Shelved) (input input_now out out_now : Streamed) (due : Option ToolFault)
    → SimulatorEnds old new input input_now out out_now given due → SimulatorLacks old new input input_now out out_now given
ends_lacking given old new input input_now out out_now due (Ran {request} {object} {numbers} loaded sent is) =
    Telling loaded (sends_all out out_now (text_of (run_seen request object numbers).printed) sent)
ends_lacking given old new input input_now out out_now due (Misused same quiet silent) = Untouched quiet silent
ends_lacking given old new input input_now out out_now due (Unread is failed quiet silent) = Untouched quiet silent
ends_lacking given old new input input_now out out_now due (Refused faulty quiet silent) = Untouched quiet silent
ends_lacking given old new input input_now out out_now due (Untaken object failed silent) = Loading object silent
ends_lacking given old new input input_now out out_now due (Misspelt object faulty silent) = Loading object silent
ends_lacking given old new input input_now out out_now due (Broke {request} {object} {numbers} loaded rose part) =
    Telling loaded (sends_part out out_now (text_of (run_seen request object numbers).printed) part)
ends_lacking given old new input input_now out out_now due (Lacking lacks) = lacks

-- what the simulator came to is what it promises, once it is reported
pub simulator_promise : (given : Option SimulateRequest) (old new : Outside) (due : Option ToolFault) (code : ℕ)
    → SimulatorEnds old.shelf new.shelf old.input new.input old.out new.out given due → ReadKeeps old.shelf new.shelf
    → LosesFront old.input.told new.input.told (most_input + 1)
    → Told due old.err new.err code ⊎ (IsSome due × Told (Some (fault.NoMemory Pvm)) old.err new.err code)
    → SimulatorPromise given old new code
simulator_promise given old new due code ends shelf lost (inl told) = record { due = due; ends = ends; told = told; shelf = shelf; lost = lost }
simulator_promise given old new due code ends shelf lost (inr told) = record {
  due = Some (fault.NoMemory Pvm);
  ends = Lacking (ends_lacking given old.shelf new.shelf old.input new.input old.out new.out due ends);
  told = told.1;
  shelf = shelf;
  lost = lost;
}

pub ruleset simulator_endings = (no_memory_ends, no_command_ends, stop_ends, run_ends)
