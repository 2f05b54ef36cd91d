-- How the assembler ends, put together from what its steps leave.
use Rattle.std.proofs.Common.{◌≡◌, ℕ, ◌+◌, ◌<◌, ◌≤◌, ◌⊎◌, inl, inr, List, length, take, Option, Some, None, refl, sym, ◌∙◌, ap, subst, arith, length-take}
use Rattle.std.proofs.lemmas.List.{take_all}
use Rattle.std.specs.Prelude.{IsSome, Err, min, option_map}
use Rattle.std.specs.FinMap.{get}
use Rattle.std.specs.Borrow.{Bor}
use Rattle.pc_word.specs.Exact.{IsRefusal}
use Rattle.pc_outside.specs.Shelf.{Files, GivesFile, HoldsFile, OnlyFileDiffers, ReadFaultOf, ReadKeeps, Shelved, WriteFaultOf}
use Rattle.pc_command.specs.Requests.{AssembleRequest}
use Rattle.pc_assembly.specs.declared.error.ListingError.{ListingError}
use Rattle.pc_assembly.specs.declared.error.ListingError.TheVariants as error
use Rattle.pc_assembly.specs.Object.{listing_cause, listing_reading}
use Rattle.pc_driver.specs.Files.{HasText, HoldsText}
use Rattle.pc_driver.proofs.Files.{holds, held_map, some_same}
use Rattle.pc_assembler.specs.Outside.{Surroundings}
use Rattle.pc_assembler.specs.Told.{Told}
use Rattle.pc_assembler.specs.Assembler.{AssemblerEnds, Assembled, Misused, Unread, Refused, Unwritten, Lacking, AssemblerLacks, Early, Writing, AssemblerPromise}
use Rattle.pc_assembler.specs.Faults.{HasTextFault, Long_text, Unread_text, IsSomeListing, most_text, told_of_listing}
use Rattle.pc_assembler.specs.declared.fault.AssemblerFault.{AssemblerFault}
use Rattle.pc_assembler.specs.declared.fault.AssemblerFault.TheVariants.{NoMemory, Usage, ReadText, Text, WriteObject}
use Rattle.pc_assembler.specs.declared.fault.TextFault.{TextFault}
use Rattle.pc_assembler.specs.declared.fault.TextFault.TheVariants as fault
use Rattle.pc_assembler.specs.models.Steps.{fault_of, Assembles, RefusesText, No_memory, Faulty, ListsObject}
use Rattle.pc_assembler.specs.models.Steps.{StopsAt, Without_memory, Without_file, Without_listing, WriteEnds, Written, Not_written, Write_lacks}
use Rattle.pc_assembler.proofs.Shelves.{differs_behind, holds_behind, same_keeps, write_fault_behind}

-- ---- the file

-- a file was not read
pub no_memory_stops : (name : List ℕ) (old new : Shelved) → StopsAt name old new NoMemory
no_memory_stops name old new = Without_memory

pub no_file_stops : (name : Bor (List ℕ)) (old new : Shelved) → ReadFaultOf old new name.now → StopsAt name.now old new (ReadText name)
no_file_stops name old new failed = Without_file refl failed

-- a file has too many bytes
pub long_stops : (name : List ℕ) (old new : Shelved) → HoldsText old.held name (λ text. most_text < length text)
    → StopsAt name old new (Text fault.TooLong)
long_stops name old new big =
    Without_listing (held_map old.held name (λ text. most_text < length text) (λ text. HasTextFault text fault.TooLong) (λ text long. Long_text long) big)

pub ruleset reads_due = (no_memory_stops, no_file_stops, long_stops)

-- ---- the bytes that a read gives

-- one byte more than there may be was asked for, so where fewer came they are all
text_given : (most : ℕ) (held : Option (List ℕ)) (bytes : List ℕ) → option_map (take (most + 1)) held ≡ Some bytes → length bytes ≤ most → held ≡ Some bytes
text_given most None bytes given few = absurd (cc)
text_given most (Some text) bytes given few =
    let cut : take (most + 1) text ≡ bytes = some_same _ _ given in
    let n : length (take (most + 1) text) ≡ min (most + 1) (length text) = length-take (most + 1) text in
    let same : length (take (most + 1) text) ≡ length bytes = ap length cut in
    let whole : take (most + 1) text ≡ text = take_all (most + 1) text (omega arith) in
    ap (λ (text : List ℕ). Some text) (sym whole ∙ cut)

-- and where they came there are more than there may be
long_given : (most : ℕ) (held : Option (List ℕ)) (bytes : List ℕ) → option_map (take (most + 1)) held ≡ Some bytes → most < length bytes
    → (text : List ℕ) × (held ≡ Some text) × (most < length text)
long_given most None bytes given big = absurd (cc)
long_given most (Some text) bytes given big =
    let cut : take (most + 1) text ≡ bytes = some_same _ _ given in
    let n : length (take (most + 1) text) ≡ min (most + 1) (length text) = length-take (most + 1) text in
    let same : length (take (most + 1) text) ≡ length bytes = ap length cut in
    (text, refl, omega arith)

pub whole_file : (most : ℕ) (held : Option Files) (name bytes : List ℕ) → GivesFile held name (most + 1) bytes → length bytes ≤ most → HasText held name bytes
whole_file most None name bytes given few = tt
whole_file most (Some files) name bytes given few = text_given most (get files name) bytes given.first few

pub long_file : (most : ℕ) (held : Option Files) (name bytes : List ℕ) → GivesFile held name (most + 1) bytes → most < length bytes
    → HoldsText held name (λ text. most < length text)
long_file most None name bytes given big = tt
long_file most (Some files) name bytes given big = long_given most (get files name) bytes given.first big

-- ---- its object

-- a text that is refused has a fault, or memory ran out
module _ (text : List ℕ) (few : length text ≤ most_text) where
  found : (why : ListingError) (told : Option TextFault) → told_of_listing why ≡ told → listing_reading text ≡ Err why → RefusesText text (fault_of told)
  found why None is first = No_memory
  found why (Some what) is first = Faulty (Unread_text few first is)

  pub text_refused : (why : ListingError) → IsRefusal (listing_cause why) (listing_reading text) → RefusesText text (fault_of (told_of_listing why))
  text_refused (error.Unexpected at expected) first = found (error.Unexpected at expected) _ refl first
  text_refused (error.Refused at why) first = found (error.Refused at why) _ refl first
  text_refused error.TooLong first = found error.TooLong _ refl first
  text_refused error.Memory first = No_memory

-- the file has a text, and its object has these bytes, or there are none
pub file_lists : (held : Option Files) (name text bytes : List ℕ) → HasText held name text → Assembles text bytes → ListsObject held name bytes
file_lists held name text bytes has is = record { text = text; in_file = has; assembles = is }

pub file_refused : (name : List ℕ) (old new : Shelved) (text : List ℕ) (due : AssemblerFault) → HasText old.held name text → RefusesText text due
    → StopsAt name old new due
file_refused name old new text due has No_memory = Without_memory
file_refused name old new text due has (Faulty {what} faulty) = Without_listing (holds old.held name text (λ text. HasTextFault text what) has faulty)

pub ruleset bytes_due = (file_lists, file_refused)

-- ---- the write

module _ (name bytes : List ℕ) (old new : Shelved) where
  pub object_written : HoldsFile old.held new.held name bytes → WriteEnds name bytes old new None
  object_written h = Written h

  pub write_lacks : OnlyFileDiffers old.held new.held name → WriteEnds name bytes old new (Some NoMemory)
  write_lacks h = Write_lacks h

pub object_unwritten : (name : Bor (List ℕ)) (bytes : List ℕ) (old new : Shelved) → OnlyFileDiffers old.held new.held name.now → WriteFaultOf old new name.now
    → WriteEnds name.now bytes old new (Some (WriteObject name))
object_unwritten name bytes old new differs failed = Not_written refl differs failed

pub ruleset writes_due = (object_written, write_lacks, object_unwritten)

-- ---- each step

-- nothing was touched, for want of memory
pub no_memory_ends : (given : Option AssembleRequest) (old : Shelved) → AssemblerEnds old old given (Some NoMemory)
no_memory_ends given old = Lacking (Early (same_keeps old))

-- the words are no command
pub no_command_ends : (given : Option AssembleRequest) (old : Shelved) → given ≡ None → AssemblerEnds old old given (Some Usage)
no_command_ends given old none = subst (λ (g : Option AssembleRequest). AssemblerEnds old old g (Some Usage)) (sym none) (Misused refl)

-- there are no bytes
pub stop_ends : (request : AssembleRequest) (old new : Shelved) (due : AssemblerFault) → ReadKeeps old new → StopsAt request.text old new due
    → AssemblerEnds old new (Some request) (Some due)
stop_ends request old new due keeps Without_memory = Lacking (Early keeps)
stop_ends request old new due keeps (Without_file {word} is failed) = Unread is keeps (subst (λ name. ReadFaultOf old new name) is failed)
stop_ends request old new due keeps (Without_listing faulty) = Refused keeps faulty

-- a file with a listing has one of some object
lists_some : (held : Option Files) (name bytes : List ℕ) → ListsObject held name bytes → HoldsText held name IsSomeListing
lists_some held name bytes it =
    holds held name it.text IsSomeListing it.in_file (it.assembles.object, it.assembles.listing)

-- there are
pub write_ends : (request : AssembleRequest) (old mid new : Shelved) (bytes : List ℕ) (due : Option AssemblerFault) → ReadKeeps old mid
    → ListsObject old.held request.text bytes → WriteEnds request.object bytes mid new due
    → AssemblerEnds old new (Some request) due
write_ends request old mid new bytes due keeps it (Written h) = Assembled {object = it.assembles.object} (record {
  text = it.text;
  in_file = it.in_file;
  listing = it.assembles.listing;
  loads = it.assembles.loads;
  written = subst (λ bytes. HoldsFile old.held new.held request.object bytes) it.assembles.is (holds_behind old mid new keeps request.object bytes h);
})
write_ends request old mid new bytes due keeps it (Not_written {word} is differs failed) =
    Unwritten is (lists_some old.held request.text bytes it)
    (subst (λ name. OnlyFileDiffers old.held new.held name) is (differs_behind old mid new keeps request.object differs))
    (subst (λ name. WriteFaultOf old new name) is (write_fault_behind old mid new keeps request.object failed))
write_ends request old mid new bytes due keeps it (Write_lacks differs) =
    Lacking (Writing (lists_some old.held request.text bytes it) (differs_behind old mid new keeps request.object differs))

pub ruleset assembler_endings = (no_memory_ends, no_command_ends, stop_ends, write_ends)

-- ---- no memory for a line

-- where something is due, what stands is what may stand where memory ran out
ends_lacking : (given : Option AssembleRequest) (old new : Shelved) (due : AssemblerFault) → AssemblerEnds old new given (Some due) → AssemblerLacks old new given
ends_lacking given old new due (Misused same) = Early (subst (λ (now : Shelved). ReadKeeps old now) (sym same) (same_keeps old))
ends_lacking given old new due (Unread is keeps failed) = Early keeps
ends_lacking given old new due (Refused keeps faulty) = Early keeps
ends_lacking given old new due (Unwritten {request} {name} is listing differs failed) =
    Writing listing (subst (λ name. OnlyFileDiffers old.held new.held name) (sym is) differs)
ends_lacking given old new due (Lacking lacks) = lacks

lacks_memory : (given : Option AssembleRequest) (old new : Shelved) (due : Option AssemblerFault) → IsSome due → AssemblerEnds old new given due
    → AssemblerEnds old new given (Some NoMemory)
lacks_memory given old new None some ends = absurd (cc)
lacks_memory given old new (Some fault) some ends = Lacking (ends_lacking given old new fault ends)

-- what the assembler came to is what it promises, once it is reported
pub assembler_promise : (given : Option AssembleRequest) (old new : Surroundings) (due : Option AssemblerFault) (code : ℕ)
    → AssemblerEnds old.shelf new.shelf given due
    → Told due old.err new.err code ⊎ (IsSome due × Told (Some NoMemory) old.err new.err code) → AssemblerPromise given old new code
assembler_promise given old new due code ends (inl told) = record { due = due; ends = ends; told = told }
assembler_promise given old new due code ends (inr told) = record {
  due = Some NoMemory;
  ends = lacks_memory given old.shelf new.shelf due told.0 ends;
  told = told.1;
}
