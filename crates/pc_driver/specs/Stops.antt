-- Why a program came to no run of an object on an input, and what is due then.
use Rattle.std.specs.Prelude.{◌≡◌, ℕ, ◌⊎◌, List, IfSome}
use Rattle.std.specs.Borrow.{Bor}
use Rattle.pc_word.specs.Count.{Rose}
use Rattle.pc_outside.specs.Shelf.{Shelved, ReadFaultOf}
use Rattle.pc_report.specs.declared.fault.Speaker.{Speaker}
use Rattle.pc_report.specs.declared.fault.ObjectFault.{ObjectFault}
use Rattle.pc_report.specs.declared.fault.InputFault.{InputFault}
use Rattle.pc_report.specs.declared.fault.ToolFault.{ToolFault}
use Rattle.pc_report.specs.declared.fault.ToolFault.TheVariants as fault
use Rattle.pc_driver.specs.Files.{HoldsText}
use Rattle.pc_driver.specs.Input.{HasInputFault}
use Rattle.pc_driver.specs.Objects.{HoldsObject, HasObjectFault}
use Rattle.pc_driver.specs.Streams.{Streamed}
use Rattle.pc_driver.specs.declared.stop.Stop.{Stop}
use Rattle.pc_driver.specs.declared.stop.Stop.TheVariants as stop

-- why the object was not loaded
abbrev pub StopsAtObject : List ℕ → Shelved → Shelved → Stop → Type 0
StopsAtObject name old new stop.Memory = Unit {0}
StopsAtObject name old new stop.ReadObject = ReadFaultOf old new name
StopsAtObject name old new (stop.Object what) = HoldsText old.held name (λ bytes. HasObjectFault bytes what)
StopsAtObject name old new _ = ⊥

-- why the input gave no numbers
abbrev pub StopsAtInput : Streamed → Streamed → Stop → Type 0
StopsAtInput old new stop.Memory = Unit {0}
StopsAtInput old new stop.ReadInput = Rose old.faults new.faults
StopsAtInput old new (stop.Input what) = IfSome old.told (λ bytes. HasInputFault bytes what)
StopsAtInput old new _ = ⊥

-- why there was no run: no object was loaded, and the input was not touched; or one was, and the input gave no numbers
abbrev pub StopsEarly : List ℕ → Shelved → Shelved → Streamed → Streamed → Stop → Type 0
StopsEarly name old new input input_now why =
    (StopsAtObject name old new why × (input_now ≡ input)) ⊎ (HoldsObject old.held name × StopsAtInput input input_now why)

-- what is due at a stop, as this program tells it
pub data StopEnds (who : Speaker) (name : List ℕ) : (why : Stop) (due : ToolFault) → Type 0 where
  Due_memory : StopEnds who name stop.Memory (fault.NoMemory who)
  Due_object_read : {word : Bor (List ℕ)} → name ≡ word.now → StopEnds who name stop.ReadObject (fault.ReadFile who word)
  Due_object : {what : ObjectFault} → StopEnds who name (stop.Object what) (fault.Object who what)
  Due_input_read : StopEnds who name stop.ReadInput (fault.ReadInput who)
  Due_input : {what : InputFault} → StopEnds who name (stop.Input what) (fault.Input who what)
