-- What the simulator promises.
use Rattle.std.specs.Prelude.{◌≡◌, ℕ, ◌+◌, ℤ, List, Option, Some, None, IfSome}
use Rattle.std.specs.Borrow.{Bor}
use Rattle.std.specs.Io.KnownBytes.{Appends}
use Rattle.pc_word.specs.Count.{Rose}
use Rattle.pc_word.specs.MachineLimits.{most_input}
use Rattle.pc_word.specs.NumberText.{text_of}
use Rattle.pc_object.specs.ObjectText.{CodeWithNotes}
use Rattle.pc_outside.specs.Shelf.{Shelved, ReadFaultOf, ReadKeeps}
use Rattle.pc_outside.specs.Stream.{AppendsPart, LosesFront}
use Rattle.pc_command.specs.Requests.{SimulateRequest}
use Rattle.pc_report.specs.declared.fault.Speaker.TheVariants.{Pvm}
use Rattle.pc_report.specs.declared.fault.ObjectFault.{ObjectFault}
use Rattle.pc_report.specs.declared.fault.InputFault.{InputFault}
use Rattle.pc_report.specs.declared.fault.ToolFault.{ToolFault}
use Rattle.pc_report.specs.declared.fault.ToolFault.TheVariants as fault
use Rattle.pc_driver.specs.Due.{Told}
use Rattle.pc_driver.specs.Files.{HoldsText}
use Rattle.pc_driver.specs.Streams.{Streamed, SendsFront}
use Rattle.pc_driver.specs.Outside.{Outside}
use Rattle.pc_driver.specs.Objects.{HasObjectFault, HoldsObject}
use Rattle.pc_driver.specs.Input.{HasInputFault, Loaded}
use Rattle.pc_simulator.specs.Simulation.{due_of, run_seen}

-- What stands where memory ran out: nothing was taken from the input and nothing sent; or OBJ holds an object that loads, and
-- nothing was sent; or it was run, and the front of what its run printed was sent.
pub data SimulatorLacks (old new : Shelved) (input input_now out out_now : Streamed) : (given : Option SimulateRequest) → Type 0 where
  Untouched : {given : Option SimulateRequest} →
      input_now ≡ input →
      out_now ≡ out →
      SimulatorLacks old new input input_now out out_now given
  Loading : {request : SimulateRequest} →
      HoldsObject old.held request.object →
      out_now ≡ out →
      SimulatorLacks old new input input_now out out_now (Some request)
  Telling : {request : SimulateRequest} {object : CodeWithNotes} {numbers : List ℤ} →
      Loaded request.object old.held input.told object numbers →
      SendsFront out out_now (text_of (run_seen request object numbers).printed) →
      SimulatorLacks old new input input_now out out_now (Some request)

-- How the simulator ends, by what is due: what was given, and what stands outside.
pub data SimulatorEnds (old new : Shelved) (input input_now out out_now : Streamed) : (given : Option SimulateRequest) (due : Option ToolFault) → Type 0 where
  -- an object was run on the input, what its run printed was sent, and its end is due
  Ran : {request : SimulateRequest} {object : CodeWithNotes} {numbers : List ℤ} {due : Option ToolFault} →
      Loaded request.object old.held input.told object numbers →
      Appends out.told out_now.told (text_of (run_seen request object numbers).printed) →
      due ≡ due_of request.cycles (run_seen request object numbers).end →
      SimulatorEnds old new input input_now out out_now (Some request) due
  -- the words are no command
  Misused :
      new ≡ old →
      input_now ≡ input →
      out_now ≡ out →
      SimulatorEnds old new input input_now out out_now None (Some (fault.Usage Pvm))
  -- the shelf had a read fault of OBJ
  Unread : {request : SimulateRequest} {name : Bor (List ℕ)} →
      request.object ≡ name.now →
      ReadFaultOf old new name.now →
      input_now ≡ input →
      out_now ≡ out →
      SimulatorEnds old new input input_now out out_now (Some request) (Some (fault.ReadFile Pvm name))
  -- OBJ has bytes with this fault
  Refused : {request : SimulateRequest} {what : ObjectFault} →
      HoldsText old.held request.object (λ bytes. HasObjectFault bytes what) →
      input_now ≡ input →
      out_now ≡ out →
      SimulatorEnds old new input input_now out out_now (Some request) (Some (fault.Object Pvm what))
  -- OBJ holds an object that loads, and the input had a fault
  Untaken : {request : SimulateRequest} →
      HoldsObject old.held request.object →
      Rose input.faults input_now.faults →
      out_now ≡ out →
      SimulatorEnds old new input input_now out out_now (Some request) (Some (fault.ReadInput Pvm))
  -- OBJ holds an object that loads, and the input has bytes with this fault
  Misspelt : {request : SimulateRequest} {what : InputFault} →
      HoldsObject old.held request.object →
      IfSome input.told (λ bytes. HasInputFault bytes what) →
      out_now ≡ out →
      SimulatorEnds old new input input_now out out_now (Some request) (Some (fault.Input Pvm what))
  -- an object was run on the input, and a proper prefix of what its run prints was sent before the output failed
  Broke : {request : SimulateRequest} {object : CodeWithNotes} {numbers : List ℤ} →
      Loaded request.object old.held input.told object numbers →
      Rose out.faults out_now.faults →
      AppendsPart out.told out_now.told (text_of (run_seen request object numbers).printed) →
      SimulatorEnds old new input input_now out out_now (Some request) (Some (fault.WriteOutput Pvm))
  -- memory ran out
  Lacking : {given : Option SimulateRequest} →
      SimulatorLacks old new input input_now out out_now given →
      SimulatorEnds old new input input_now out out_now given (Some (fault.NoMemory Pvm))

-- What the simulator promises of the outside before and after it: it came to an end, and what was due then is reported; whatever
-- the end, the shelf's files are as before, and the input lost bytes from its front alone, at most one more than it may have.
pub record SimulatorPromise (given : Option SimulateRequest) (old new : Outside) (code : ℕ) : Type 0 where
  pub due : Option ToolFault
  pub ends : SimulatorEnds old.shelf new.shelf old.input new.input old.out new.out given due
  pub told : Told due old.err new.err code
  pub shelf : ReadKeeps old.shelf new.shelf
  pub lost : LosesFront old.input.told new.input.told (most_input + 1)
