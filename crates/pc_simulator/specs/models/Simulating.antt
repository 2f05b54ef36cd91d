-- What each private answer of the simulator says of the outside before and after it.
use Rattle.std.specs.Prelude.{◌≡◌, ℕ, ℤ, false, List, Option, Some}
use Rattle.std.specs.Io.KnownBytes.{Appends}
use Rattle.pc_word.specs.Count.{Rose}
use Rattle.pc_word.specs.NumberText.{text_of}
use Rattle.pc_word.specs.Run.{Seen}
use Rattle.pc_machine.specs.MachineCode.{RowCode, code_of}
use Rattle.pc_machine.specs.MachineRun.{machine_start}
use Rattle.pc_object.specs.ObjectText.{CodeWithNotes}
use Rattle.pc_outside.specs.Shelf.{Files}
use Rattle.pc_outside.specs.Stream.{AppendsPart}
use Rattle.pc_report.specs.declared.fault.Speaker.TheVariants.{Pvm}
use Rattle.pc_report.specs.declared.fault.ToolFault.{ToolFault}
use Rattle.pc_report.specs.declared.fault.ToolFault.TheVariants as fault
use Rattle.pc_vm.specs.Standing.{Standing, here_of}
use Rattle.pc_driver.specs.Objects.{Holds}
use Rattle.pc_driver.specs.Streams.{Streamed}
use Rattle.pc_driver.specs.Input.{SpellsInput}
use Rattle.pc_simulator.specs.Simulation.{due_of}

-- the machine is at the start of this code, with the numbers of the input
pub record IsPlaced (code : RowCode) (left : Option (List ℕ)) (machine : Standing) : Type 0 where
  pub numbers : List ℤ
  pub in_input : SpellsInput left numbers
  pub runs : code_of machine.code ≡ code
  pub start : here_of machine ≡ machine_start code numbers
  pub not_over : machine.over ≡ false

-- the machine is at the start of the code of an object that the file holds, with the numbers of the input
pub record Ready (name : List ℕ) (held : Option Files) (left : Option (List ℕ)) (machine : Standing) : Type 0 where
  pub object : CodeWithNotes
  pub in_file : Holds held name object
  pub placed : IsPlaced object.code left machine

-- what is due after a run of which this is seen, and what was sent of its text
pub data RunEnds (cycles : ℕ) (seen : Seen) (old new : Streamed) : (due : Option ToolFault) → Type 0 where
  Told_whole : {due : Option ToolFault} →
      Appends old.told new.told (text_of seen.printed) →
      due ≡ due_of cycles seen.end →
      RunEnds cycles seen old new due
  Told_part :
      Rose old.faults new.faults →
      AppendsPart old.told new.told (text_of seen.printed) →
      RunEnds cycles seen old new (Some (fault.WriteOutput Pvm))
