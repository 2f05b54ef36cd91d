-- Why the text of a source was not read.
use Rattle.std.proofs.Common.{ℕ, ◌<◌, List, length, refl}
use Rattle.std.specs.Borrow.{Bor}
use Rattle.pc_word.specs.SourceLimits.{most_source}
use Rattle.pc_outside.specs.Shelf.{Shelved, ReadFaultOf}
use Rattle.pc_command.specs.Requests.{SourcePlace, OfFile}
use Rattle.pc_report.specs.declared.fault.SourceFault.TheVariants as fault
use Rattle.pc_driver.specs.Files.{HoldsText}
use Rattle.pc_driver.proofs.Files.{held_map}
use Rattle.pc_source.specs.Reading.{FailsToRead, Not_read, Too_long, No_memory}
use Rattle.pc_source.specs.SourceFaults.{HasFault, Long}
use Rattle.pc_source.specs.declared.source.SourceError.TheVariants.{Unread, TooLong, Memory}

pub not_read : (name : Bor (List ℕ)) (old new : Shelved) → ReadFaultOf old new name.now → FailsToRead (OfFile name.now) old new (Unread name)
not_read name old new failed = Not_read refl failed

pub too_long : (name : List ℕ) (old new : Shelved) → HoldsText old.held name (λ text. most_source < length text)
    → FailsToRead (OfFile name) old new TooLong
too_long name old new long =
    Too_long (held_map old.held name (λ text. most_source < length text) (λ text. HasFault text fault.TooLong) (λ text big. Long big) long)

pub no_memory : (source : SourcePlace) (old new : Shelved) → FailsToRead source old new Memory
no_memory source old new = No_memory

pub ruleset reads_due = (not_read, too_long, no_memory)
