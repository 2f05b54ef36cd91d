-- What each private answer of the assembler says of the outside before and after it.
use Rattle.std.specs.Prelude.{◌≡◌, ℕ, List, Option, Some, None}
use Rattle.std.specs.Borrow.{Bor}
use Rattle.pc_object.specs.ObjectText.{CodeWithNotes, object_text}
use Rattle.pc_outside.specs.Shelf.{Files, HoldsFile, OnlyFileDiffers, ReadFaultOf, Shelved, WriteFaultOf}
use Rattle.pc_driver.specs.Files.{HasText, HoldsText}
use Rattle.pc_driver.specs.Objects.{Loads}
use Rattle.pc_assembler.specs.Faults.{HasTextFault, IsListingOf}
use Rattle.pc_assembler.specs.declared.fault.AssemblerFault.{AssemblerFault}
use Rattle.pc_assembler.specs.declared.fault.AssemblerFault.TheVariants.{NoMemory, ReadText, Text, WriteObject}
use Rattle.pc_assembler.specs.declared.fault.TextFault.{TextFault}

-- the fault of a text, if it has one, and else want of memory
abbrev pub fault_of : Option TextFault → AssemblerFault
fault_of (Some what) = Text what
fault_of None = NoMemory

-- the text is a listing of an object that loads, of which these are the bytes
pub record Assembles (text bytes : List ℕ) : Type 0 where
  pub object : CodeWithNotes
  pub listing : IsListingOf text object
  pub loads : Loads object
  pub is : bytes ≡ object_text object

-- why there are no bytes of a text's object
pub data RefusesText (text : List ℕ) : (due : AssemblerFault) → Type 0 where
  No_memory : RefusesText text NoMemory
  Faulty : {what : TextFault} → HasTextFault text what → RefusesText text (Text what)

-- a file has such a text
pub record ListsObject (held : Option Files) (name bytes : List ℕ) : Type 0 where
  pub text : List ℕ
  pub in_file : HasText held name text
  pub assembles : Assembles text bytes

-- why there are no bytes of a file's object
pub data StopsAt (name : List ℕ) (old new : Shelved) : (due : AssemblerFault) → Type 0 where
  Without_memory : StopsAt name old new NoMemory
  Without_file : {word : Bor (List ℕ)} → name ≡ word.now → ReadFaultOf old new name → StopsAt name old new (ReadText word)
  Without_listing : {what : TextFault} → HoldsText old.held name (λ text. HasTextFault text what) → StopsAt name old new (Text what)

-- what is due after bytes were written, and what stands then
pub data WriteEnds (name bytes : List ℕ) (old new : Shelved) : (due : Option AssemblerFault) → Type 0 where
  Written : HoldsFile old.held new.held name bytes → WriteEnds name bytes old new None
  Not_written : {word : Bor (List ℕ)} → name ≡ word.now → OnlyFileDiffers old.held new.held name → WriteFaultOf old new name
      → WriteEnds name bytes old new (Some (WriteObject word))
  Write_lacks : OnlyFileDiffers old.held new.held name → WriteEnds name bytes old new (Some NoMemory)
