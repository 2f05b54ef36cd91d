-- What the profiler promises.
use Rattle.std.specs.Prelude.{◌≡◌, ℕ, ◌+◌, ℤ, List, Option, Some, None, IfSome}
use Rattle.std.specs.Borrow.{Bor}
use Rattle.std.specs.Io.KnownBytes.{Appends}
use Rattle.pc_word.specs.Count.{Rose}
use Rattle.pc_word.specs.MachineLimits.{most_input}
use Rattle.pc_object.specs.ObjectText.{CodeWithNotes}
use Rattle.pc_outside.specs.Shelf.{Shelved, ReadFaultOf, ReadKeeps}
use Rattle.pc_outside.specs.Stream.{AppendsPart, LosesFront}
use Rattle.pc_command.specs.Requests.{StatRequest}
use Rattle.pc_report.specs.declared.fault.Speaker.TheVariants.{Pstat}
use Rattle.pc_report.specs.declared.fault.ObjectFault.{ObjectFault}
use Rattle.pc_report.specs.declared.fault.InputFault.{InputFault}
use Rattle.pc_report.specs.declared.fault.ToolFault.{ToolFault}
use Rattle.pc_report.specs.declared.fault.ToolFault.TheVariants as fault
use Rattle.pc_driver.specs.Due.{Told}
use Rattle.pc_driver.specs.Files.{HoldsText}
use Rattle.pc_driver.specs.Input.{HasInputFault, Loaded}
use Rattle.pc_driver.specs.Objects.{HasObjectFault, HoldsObject}
use Rattle.pc_driver.specs.Outside.{Outside}
use Rattle.pc_driver.specs.Streams.{Streamed, SendsFront}
use Rattle.pc_profiler.specs.Cost.{cost_text}

-- What stands where memory ran out: nothing was taken from the input and nothing sent; or OBJ holds an object that loads, and
-- nothing was sent; or it was run on the input, and the front of what the run cost was sent.
pub data ProfilerLacks (old : Shelved) (input input_now out out_now : Streamed) : (given : Option StatRequest) → Type 0 where
  Untouched : {given : Option StatRequest} →
      input_now ≡ input →
      out_now ≡ out →
      ProfilerLacks old input input_now out out_now given
  Loading : {request : StatRequest} →
      HoldsObject old.held request.object →
      out_now ≡ out →
      ProfilerLacks old input input_now out out_now (Some request)
  Sending : {request : StatRequest} {object : CodeWithNotes} {numbers : List ℤ} →
      Loaded request.object old.held input.told object numbers →
      SendsFront out out_now (cost_text request object numbers) →
      ProfilerLacks old input input_now out out_now (Some request)

-- How the profiler ends, by what is due: what was given, and what stands outside.
pub data ProfilerEnds (old new : Shelved) (input input_now out out_now : Streamed) : (given : Option StatRequest) (due : Option ToolFault) → Type 0 where
  -- an object was run on the input, and what the run cost was sent
  Profiled : {request : StatRequest} {object : CodeWithNotes} {numbers : List ℤ} →
      Loaded request.object old.held input.told object numbers →
      Appends out.told out_now.told (cost_text request object numbers) →
      ProfilerEnds old new input input_now out out_now (Some request) None
  -- the words are no command
  Misused :
      new ≡ old →
      input_now ≡ input →
      out_now ≡ out →
      ProfilerEnds old new input input_now out out_now None (Some (fault.Usage Pstat))
  -- the shelf had a read fault of OBJ
  Unread : {request : StatRequest} {name : Bor (List ℕ)} →
      request.object ≡ name.now →
      ReadFaultOf old new name.now →
      input_now ≡ input →
      out_now ≡ out →
      ProfilerEnds old new input input_now out out_now (Some request) (Some (fault.ReadFile Pstat name))
  -- OBJ has bytes with this fault
  Refused : {request : StatRequest} {what : ObjectFault} →
      HoldsText old.held request.object (λ bytes. HasObjectFault bytes what) →
      input_now ≡ input →
      out_now ≡ out →
      ProfilerEnds old new input input_now out out_now (Some request) (Some (fault.Object Pstat what))
  -- OBJ holds an object that loads, and the input had a fault
  Untaken : {request : StatRequest} →
      HoldsObject old.held request.object →
      Rose input.faults input_now.faults →
      out_now ≡ out →
      ProfilerEnds old new input input_now out out_now (Some request) (Some (fault.ReadInput Pstat))
  -- OBJ holds an object that loads, and the input has bytes with this fault
  Misspelt : {request : StatRequest} {what : InputFault} →
      HoldsObject old.held request.object →
      IfSome input.told (λ bytes. HasInputFault bytes what) →
      out_now ≡ out →
      ProfilerEnds old new input input_now out out_now (Some request) (Some (fault.Input Pstat what))
  -- an object was run on the input, and a proper prefix of what the run cost was sent before the output failed
  Broke : {request : StatRequest} {object : CodeWithNotes} {numbers : List ℤ} →
      Loaded request.object old.held input.told object numbers →
      Rose out.faults out_now.faults →
      AppendsPart out.told out_now.told (cost_text request object numbers) →
      ProfilerEnds old new input input_now out out_now (Some request) (Some (fault.WriteOutput Pstat))
  -- memory ran out
  Lacking : {given : Option StatRequest} →
      ProfilerLacks old input input_now out out_now given →
      ProfilerEnds old new input input_now out out_now given (Some (fault.NoMemory Pstat))

-- What the profiler promises of the outside before and after it: it came to an end, and what was due then is reported; whatever
-- the end, the shelf's files are as before, and the input lost bytes from its front alone, at most one more than it may have.
pub record ProfilerPromise (given : Option StatRequest) (old new : Outside) (code : ℕ) : Type 0 where
  pub due : Option ToolFault
  pub ends : ProfilerEnds old.shelf new.shelf old.input new.input old.out new.out given due
  pub told : Told due old.err new.err code
  pub shelf : ReadKeeps old.shelf new.shelf
  pub lost : LosesFront old.input.told new.input.told (most_input + 1)
