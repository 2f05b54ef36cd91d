-- What is due once a text was sent.
use Rattle.std.proofs.Common.{ℕ, List, Some, None}
use Rattle.std.specs.Io.KnownBytes.{Appends}
use Rattle.pc_word.specs.Count.{Rose}
use Rattle.pc_outside.specs.Stream.{AppendsPart}
use Rattle.pc_report.specs.declared.fault.Speaker.{Speaker}
use Rattle.pc_report.specs.declared.fault.ToolFault.TheVariants as fault
use Rattle.pc_driver.specs.Sending.{SendsAll, Sent_whole, Sent_part}
use Rattle.pc_driver.specs.Streams.{Streamed}

pub sent_whole : (who : Speaker) (text : List ℕ) (old new : Streamed) → Appends old.told new.told text → SendsAll who text old new None
sent_whole who text old new sent = Sent_whole sent

pub sent_part : (who : Speaker) (text : List ℕ) (old new : Streamed) → Rose old.faults new.faults → AppendsPart old.told new.told text
    → SendsAll who text old new (Some (fault.WriteOutput who))
sent_part who text old new rose part = Sent_part rose part

pub ruleset sends_due = (sent_whole, sent_part)
