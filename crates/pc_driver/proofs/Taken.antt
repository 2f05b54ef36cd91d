-- Why an object was not loaded; what was taken from the input, and what is left of it.
use Rattle.std.proofs.Common.{◌≡◌, ℕ, ◌+◌, ◌<◌, ◌≤◌, List, [], length, take, Option, Some, None, refl, sym, ◌∙◌, ap, subst, arith, length-take, zero-le}
use Rattle.std.proofs.lemmas.List.{take-append-drop, take_all}
use Rattle.std.specs.Prelude.{ℤ, IfSome, Ok, Err, min}
use Rattle.std.specs.Io.KnownBytes.{Consumes}
use Rattle.pc_word.specs.declared.number_text.NumbersError.{NumbersError}
use Rattle.pc_word.specs.declared.number_text.NumbersError.TheVariants as numbers_error
use Rattle.pc_word.specs.NumberText.{numbers_in, IsNumbersRefusal}
use Rattle.pc_outside.specs.Stream.{TakesFirst, LosesFront}
use Rattle.pc_word.specs.MachineLimits.{most_input, most_object}
use Rattle.pc_driver.specs.declared.stop.Stop.TheVariants as stop
use Rattle.pc_word.specs.Exact.{IsRefusal}
use Rattle.pc_object.specs.Cause.{object_cause}
use Rattle.pc_object.specs.Reading.{object_reading}
use Rattle.pc_object.specs.declared.refusal.ObjectError.{ObjectError}
use Rattle.pc_object.specs.declared.refusal.ObjectError.TheVariants as error
use Rattle.pc_outside.specs.Shelf.{Shelved}
use Rattle.pc_report.specs.declared.fault.ObjectFault.{ObjectFault}
use Rattle.pc_report.specs.declared.fault.ObjectFault.TheVariants as object_fault
use Rattle.pc_report.specs.declared.fault.InputFault.TheVariants as input_fault
use Rattle.pc_driver.specs.Files.{HasText}
use Rattle.pc_driver.specs.Streams.{Streamed}
use Rattle.pc_driver.specs.Objects.{HasObjectFault, Long_object, Unread_object, told_of_object}
use Rattle.pc_driver.specs.Input.{HasInputFault, Long_input, Misspelt_input, SpellsInput}
use Rattle.pc_driver.specs.declared.file.FileError.{FileError}
use Rattle.pc_driver.specs.declared.file.FileError.TheVariants as file
use Rattle.pc_driver.specs.Files.{RefusesFile}
use Rattle.pc_driver.specs.models.Refusals.{stop_of_file, stop_of_numbers, stop_of_object}
use Rattle.pc_driver.specs.Stops.{StopsAtInput, StopsAtObject}
use Rattle.pc_driver.specs.Stops.{StopEnds, Due_memory, Due_object_read, Due_object, Due_input_read, Due_input}
use Rattle.pc_report.specs.declared.fault.InputFault.{InputFault}
use Rattle.pc_report.specs.declared.fault.Speaker.{Speaker}
use Rattle.pc_report.specs.declared.fault.ToolFault.TheVariants as due_fault
use Rattle.std.specs.Borrow.{Bor}
use Rattle.pc_driver.proofs.Files.{held_map, holds}

-- ---- the bytes that a read gives

whole_of : (most : ℕ) (text bytes : List ℕ) → take (most + 1) text ≡ bytes → length bytes ≤ most → take (most + 1) text ≡ text
whole_of most text bytes cut small =
    let n : length (take (most + 1) text) ≡ min (most + 1) (length text) = length-take (most + 1) text in
    let same : length (take (most + 1) text) ≡ length bytes = ap length cut in
    take_all (most + 1) text (omega arith)

longer_of : (most : ℕ) (text bytes : List ℕ) → take (most + 1) text ≡ bytes → most < length bytes → most < length text
longer_of most text bytes cut big =
    let n : length (take (most + 1) text) ≡ min (most + 1) (length text) = length-take (most + 1) text in
    let same : length (take (most + 1) text) ≡ length bytes = ap length cut in
    omega arith

-- ---- the object

-- a file that was not read
pub file_stops : (error : FileError) (name : List ℕ) (old new : Shelved) → RefusesFile error name most_object old new → StopsAtObject name old new (stop_of_file error)
file_stops file.Memory name old new h = tt
file_stops file.Failed name old new h = h
file_stops file.TooLong name old new h =
    held_map old.held name (λ text. most_object < length text) (λ text. HasObjectFault text object_fault.TooLong) (λ text big. Long_object big) h

module _ (name : List ℕ) (old new : Shelved) (bytes : List ℕ) (has : HasText old.held name bytes) (few : length bytes ≤ most_object) where
  flawed : (why : ObjectError) (what : ObjectFault) → object_reading bytes ≡ Err why → told_of_object why ≡ Some what
      → StopsAtObject name old new (stop.Object what)
  flawed why what first is = holds old.held name bytes (λ bytes. HasObjectFault bytes what) has (Unread_object few first is)

  -- bytes that are no object
  pub object_stops : (why : ObjectError) → IsRefusal (object_cause why) (object_reading bytes) → StopsAtObject name old new (stop_of_object why)
  object_stops error.BadMagic first = flawed error.BadMagic object_fault.BadMagic first refl
  object_stops (error.Truncated offset) first = flawed (error.Truncated offset) (object_fault.Truncated offset) first refl
  object_stops (error.BadField offset flaw) first = flawed (error.BadField offset flaw) (object_fault.BadField offset flaw) first refl
  object_stops (error.Trailing offset) first = flawed (error.Trailing offset) (object_fault.Trailing offset) first refl
  object_stops error.Memory first = tt

-- ---- the input

given_of : (left : Option (List ℕ)) (bytes : List ℕ) → IfSome left (λ all. bytes ≡ take (most_input + 1) all) → length bytes ≤ most_input
    → IfSome left (λ all. all ≡ bytes)
given_of None bytes first few = tt
given_of (Some all) bytes first few = sym (whole_of most_input all bytes (sym first) few) ∙ sym first

-- what was taken gave the numbers
pub gives : (left : Option (List ℕ)) (bytes : List ℕ) (numbers : List ℤ) → IfSome left (λ all. bytes ≡ take (most_input + 1) all) → length bytes ≤ most_input
    → numbers_in bytes ≡ Ok numbers → SpellsInput left numbers
gives left bytes numbers first few e = record {
  bytes = bytes;
  given = given_of left bytes first few;
  input = record { few_bytes = few; read = e };
}

-- more was taken than there may be
pub long_input : (left : Option (List ℕ)) (bytes : List ℕ) → IfSome left (λ all. bytes ≡ take (most_input + 1) all) → most_input < length bytes
    → IfSome left (λ all. HasInputFault all input_fault.TooLong)
long_input None bytes first big = tt
long_input (Some all) bytes first big = Long_input (longer_of most_input all bytes (sym first) big)

misspelt_of : (left : Option (List ℕ)) (bytes : List ℕ) (offset : ℕ) → IfSome left (λ all. bytes ≡ take (most_input + 1) all) → length bytes ≤ most_input
    → numbers_in bytes ≡ Err offset → IfSome left (λ all. HasInputFault all (input_fault.NotNumber offset))
misspelt_of None bytes offset first few e = tt
misspelt_of (Some all) bytes offset first few e =
    let whole : all ≡ bytes = given_of (Some all) bytes first few in
    subst (λ bytes. HasInputFault bytes (input_fault.NotNumber offset)) (sym whole) (Misspelt_input few e)

-- what was taken spells no numbers
pub refused_numbers : (error : NumbersError) (bytes : List ℕ) (old new : Streamed) → IfSome old.told (λ all. bytes ≡ take (most_input + 1) all) → length bytes ≤ most_input
    → IsNumbersRefusal bytes error → StopsAtInput old new (stop_of_numbers error)
refused_numbers (numbers_error.NotNumber offset) bytes old new first few h = misspelt_of old.told bytes offset first few h
refused_numbers numbers_error.Memory bytes old new first few h = tt

-- what is taken from the front is lost
pub loses : (old new : Option (List ℕ)) (most : ℕ) (all : List ℕ) → TakesFirst old new most all → LosesFront old new most
loses None new most all t = record { lost = []; bound = zero-le; gone = tt }
loses (Some bytes) new most all t = record {
  lost = take most bytes;
  bound = let n : length (take most bytes) ≡ min most (length bytes) = length-take most bytes in omega arith;
  gone = subst (λ (rest : Option (List ℕ)). Consumes (Some bytes) rest (take most bytes)) (sym t.lost) (sym (take-append-drop most bytes));
}

-- ---- what is due at a stop

pub due_memory : (who : Speaker) (name : List ℕ) → StopEnds who name stop.Memory (due_fault.NoMemory who)
due_memory who name = Due_memory

pub due_object_read : (who : Speaker) (name : Bor (List ℕ)) → StopEnds who name.now stop.ReadObject (due_fault.ReadFile who name)
due_object_read who name = Due_object_read refl

pub due_object : (who : Speaker) (name : List ℕ) (what : ObjectFault) → StopEnds who name (stop.Object what) (due_fault.Object who what)
due_object who name what = Due_object

pub due_input_read : (who : Speaker) (name : List ℕ) → StopEnds who name stop.ReadInput (due_fault.ReadInput who)
due_input_read who name = Due_input_read

pub due_input : (who : Speaker) (name : List ℕ) (what : InputFault) → StopEnds who name (stop.Input what) (due_fault.Input who what)
due_input who name what = Due_input

pub ruleset stops_due = (due_memory, due_object_read, due_object, due_input_read, due_input)
