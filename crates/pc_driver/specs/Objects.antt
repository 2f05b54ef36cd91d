-- Objects that load, the files that hold them, and why bytes are refused, as it is reported to a user.
use Rattle.std.specs.Prelude.{◌≡◌, ℕ, ◌<◌, ◌≤◌, List, length, Option, Some, None, Err}
use Rattle.pc_word.specs.MachineLimits.{most_object}
use Rattle.pc_object.specs.ObjectText.{CodeWithNotes, IsObject, object_text}
use Rattle.pc_object.specs.Numbers.{HasWords}
use Rattle.pc_object.specs.Reading.{object_reading}
use Rattle.pc_object.specs.declared.refusal.ObjectError.{ObjectError}
use Rattle.pc_object.specs.declared.refusal.ObjectError.TheVariants as error
use Rattle.pc_outside.specs.Shelf.{Files}
use Rattle.pc_report.specs.declared.fault.ObjectFault.{ObjectFault}
use Rattle.pc_report.specs.declared.fault.ObjectFault.TheVariants as object
use Rattle.pc_driver.specs.Files.{HasText, HoldsText}

-- the object loads; it is the one that its text is read as, since its literals are words and its lines and numbers below 2^32
pub record Loads (object : CodeWithNotes) : Type 0 where
  pub is_object : IsObject object
  pub has_words : HasWords object

-- the bytes are the text of this object, which loads
pub record IsTextOf (bytes : List ℕ) (object : CodeWithNotes) : Type 0 where
  pub loads : Loads object
  pub text : bytes ≡ object_text object

-- the bytes are the text of no object that loads
abbrev pub IsNoObject : List ℕ → Type 0
IsNoObject bytes = (object : CodeWithNotes) → IsTextOf bytes object → ⊥

-- the object loads, and where the shelf tells its files, the named one has its text
pub record Holds (held : Option Files) (name : List ℕ) (object : CodeWithNotes) : Type 0 where
  pub loads : Loads object
  pub text : HasText held name (object_text object)

-- where the shelf tells its files, the named one has the text of an object that loads
abbrev pub HoldsObject : Option Files → List ℕ → Type 0
HoldsObject held name = HoldsText held name (λ bytes. (object : CodeWithNotes) × IsTextOf bytes object)

-- ---- refusals

-- how the first thing that is wrong with an object is reported; want of memory is none
abbrev pub told_of_object : ObjectError → Option ObjectFault
told_of_object error.BadMagic = Some object.BadMagic
told_of_object (error.Truncated offset) = Some (object.Truncated offset)
told_of_object (error.BadField offset flaw) = Some (object.BadField offset flaw)
told_of_object (error.Trailing offset) = Some (object.Trailing offset)
told_of_object error.Memory = None

-- the bytes have this fault: they are too many, or this is the first thing that is wrong with them
pub data HasObjectFault (bytes : List ℕ) : (fault : ObjectFault) → Type 0 where
  Long_object : most_object < length bytes → HasObjectFault bytes object.TooLong
  Unread_object : {error : ObjectError} {fault : ObjectFault} →
      length bytes ≤ most_object →
      object_reading bytes ≡ Err error →
      told_of_object error ≡ Some fault →
      HasObjectFault bytes fault
