-- How the profiler ends, put together from what its steps leave.
use Rattle.std.proofs.Common.{◌≡◌, ℕ, ◌+◌, ◌⊎◌, inl, inr, List, Option, Some, None, refl, sym, subst}
use Rattle.std.specs.Prelude.{IsSome}
use Rattle.std.specs.Io.KnownBytes.{Appends}
use Rattle.pc_word.specs.MachineLimits.{most_input}
use Rattle.pc_outside.specs.Shelf.{Shelved, ReadFaultOf, ReadKeeps}
use Rattle.pc_outside.specs.Stream.{AppendsPart, LosesFront}
use Rattle.pc_command.specs.Requests.{StatRequest}
use Rattle.pc_report.specs.declared.fault.Speaker.TheVariants.{Pstat}
use Rattle.pc_report.specs.declared.fault.ToolFault.{ToolFault}
use Rattle.pc_report.specs.declared.fault.ToolFault.TheVariants as fault
use Rattle.pc_driver.specs.Due.{Told}
use Rattle.pc_driver.specs.Input.{Loaded}
use Rattle.pc_driver.specs.Objects.{HoldsObject}
use Rattle.pc_driver.specs.Outside.{Outside}
use Rattle.pc_driver.specs.Sending.{SendsAll, Sent_whole, Sent_part}
use Rattle.pc_driver.specs.Stops.{StopsAtInput, StopsAtObject, StopsEarly, StopEnds, Due_memory, Due_object_read, Due_object, Due_input_read, Due_input}
use Rattle.pc_driver.specs.Streams.{Streamed}
use Rattle.pc_driver.specs.declared.stop.Stop.{Stop}
use Rattle.pc_driver.specs.declared.stop.Stop.TheVariants as stop
use Rattle.pc_driver.proofs.Streams.{sends_all, sends_part}
use Rattle.pc_profiler.specs.Cost.{cost_text}
use Rattle.pc_profiler.specs.Profiler.{ProfilerEnds, Profiled, Misused, Unread, Refused, Untaken, Misspelt, Broke, Lacking}
use Rattle.pc_profiler.specs.Profiler.{ProfilerLacks, Untouched, Loading, Sending, ProfilerPromise}
use Rattle.pc_profiler.specs.models.Profiling.{TellsCost}

-- ---- each step

-- nothing was touched, for want of memory
pub no_memory_ends : (given : Option StatRequest) (old : Shelved) (input out : Streamed)
    → ProfilerEnds old old input input out out given (Some (fault.NoMemory Pstat))
no_memory_ends given old input out = Lacking (Untouched refl refl)

-- the words are no command
pub no_command_ends : (given : Option StatRequest) (old : Shelved) (input out : Streamed) → given ≡ None
    → ProfilerEnds old old input input out out given (Some (fault.Usage Pstat))
no_command_ends given old input out none =
    subst (λ (g : Option StatRequest). ProfilerEnds old old input input out out g (Some (fault.Usage Pstat))) (sym none) (Misused refl refl refl)

module _ (request : StatRequest) (old new : Shelved) (input input_now out : Streamed) where
  -- no object was loaded
  object_ends : (why : Stop) (due : ToolFault) → StopsAtObject request.object old new why → input_now ≡ input → StopEnds Pstat request.object why due
      → ProfilerEnds old new input input_now out out (Some request) (Some due)
  object_ends stop.Memory due h same Due_memory = Lacking (Untouched same refl)
  object_ends stop.ReadObject due h same (Due_object_read {word} is) = Unread is (subst (λ name. ReadFaultOf old new name) is h) same refl
  object_ends (stop.Object what) due h same Due_object = Refused h same refl
  object_ends stop.ReadInput due h same ends = absurd h
  object_ends (stop.Input what) due h same ends = absurd h

  -- an object was, and the input gave no numbers
  input_ends : (why : Stop) (due : ToolFault) → HoldsObject old.held request.object → StopsAtInput input input_now why → StopEnds Pstat request.object why due
      → ProfilerEnds old new input input_now out out (Some request) (Some due)
  input_ends stop.Memory due object h Due_memory = Lacking (Loading object refl)
  input_ends stop.ReadInput due object h Due_input_read = Untaken object h refl
  input_ends (stop.Input what) due object h Due_input = Misspelt object h refl
  input_ends stop.ReadObject due object h ends = absurd h
  input_ends (stop.Object what) due object h ends = absurd h

  -- there was no run
  pub stop_ends : (why : Stop) (due : ToolFault) → StopsEarly request.object old new input input_now why → StopEnds Pstat request.object why due
      → ProfilerEnds old new input input_now out out (Some request) (Some due)
  stop_ends why due (inl h) ends = object_ends why due h.0 h.1 ends
  stop_ends why due (inr h) ends = input_ends why due h.0 h.1 ends

  -- there was one
  pub text_ends : (out_now : Streamed) (text : List ℕ) (due : Option ToolFault) → TellsCost request old.held input.told text
      → SendsAll Pstat text out out_now due → ProfilerEnds old new input input_now out out_now (Some request) due
  text_ends out_now text due cost (Sent_whole sent) =
      let loaded : Loaded request.object old.held input.told cost.object cost.tells.numbers = record { in_file = cost.in_file; in_input = cost.tells.in_input } in
      Profiled loaded (subst (λ t. Appends out.told out_now.told t) cost.tells.is sent)
  text_ends out_now text due cost (Sent_part rose part) =
      let loaded : Loaded request.object old.held input.told cost.object cost.tells.numbers = record { in_file = cost.in_file; in_input = cost.tells.in_input } in
      Broke loaded rose (subst (λ t. AppendsPart out.told out_now.told t) cost.tells.is part)

-- ---- no memory for a line

-- where something is due, what stands is what may stand where memory ran out
ends_lacking : (given : Option StatRequest) (old new : Shelved) (input input_now out out_now : Streamed) (due : Option ToolFault)
    → ProfilerEnds old new input input_now out out_now given due → ProfilerLacks old input input_now out out_now given
ends_lacking given old new input input_now out out_now due (Profiled {request} {object} {numbers} loaded sent) =
    Sending loaded (sends_all out out_now (cost_text request object numbers) sent)
ends_lacking given old new input input_now out out_now due (Misused same quiet silent) = Untouched quiet silent
ends_lacking given old new input input_now out out_now due (Unread is failed quiet silent) = Untouched quiet silent
ends_lacking given old new input input_now out out_now due (Refused faulty quiet silent) = Untouched quiet silent
ends_lacking given old new input input_now out out_now due (Untaken object failed silent) = Loading object silent
ends_lacking given old new input input_now out out_now due (Misspelt object faulty silent) = Loading object silent
ends_lacking given old new input input_now out out_now due (Broke {request} {object} {numbers} loaded rose part) =
    Sending loaded (sends_part out out_now (cost_text request object numbers) part)
ends_lacking given old new input input_now out out_now due (Lacking lacks) = lacks

-- what the profiler came to is what it promises, once it is reported
pub profiler_promise : (given : Option StatRequest) (old new : Outside) (due : Option ToolFault) (code : ℕ)
    → ProfilerEnds old.shelf new.shelf old.input new.input old.out new.out given due → ReadKeeps old.shelf new.shelf
    → LosesFront old.input.told new.input.told (most_input + 1)
    → Told due old.err new.err code ⊎ (IsSome due × Told (Some (fault.NoMemory Pstat)) old.err new.err code)
    → ProfilerPromise given old new code
profiler_promise given old new due code ends shelf lost (inl told) = record { due = due; ends = ends; told = told; shelf = shelf; lost = lost }
profiler_promise given old new due code ends shelf lost (inr told) = record {
  due = Some (fault.NoMemory Pstat);
  ends = Lacking (ends_lacking given old.shelf new.shelf old.input new.input old.out new.out due ends);
  told = told.1;
  shelf = shelf;
  lost = lost;
}

pub ruleset profiler_endings = (no_memory_ends, no_command_ends, text_ends)
