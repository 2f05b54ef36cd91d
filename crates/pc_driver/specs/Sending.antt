-- How a program sends a text to its output, and what is due then.
use Rattle.std.specs.Prelude.{ℕ, List, Option, Some, None}
use Rattle.std.specs.Io.KnownBytes.{Appends}
use Rattle.pc_word.specs.Count.{Rose}
use Rattle.pc_outside.specs.Stream.{AppendsPart}
use Rattle.pc_report.specs.declared.fault.Speaker.{Speaker}
use Rattle.pc_report.specs.declared.fault.ToolFault.{ToolFault}
use Rattle.pc_report.specs.declared.fault.ToolFault.TheVariants as fault
use Rattle.pc_driver.specs.Streams.{Streamed}

-- a text was sent, or a proper prefix of it before the output failed, which this program has to tell
pub data SendsAll (who : Speaker) (text : List ℕ) (out out_now : Streamed) : (due : Option ToolFault) → Type 0 where
  Sent_whole : Appends out.told out_now.told text → SendsAll who text out out_now None
  Sent_part : Rose out.faults out_now.faults → AppendsPart out.told out_now.told text → SendsAll who text out out_now (Some (fault.WriteOutput who))
