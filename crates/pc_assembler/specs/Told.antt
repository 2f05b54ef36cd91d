-- What the assembler tells at its end, and the status with which it ends.
use Rattle.std.specs.Prelude.{◌≡◌, ℕ, Option, Some, None}
use Rattle.pc_driver.specs.Streams.{Streamed}
use Rattle.pc_driver.specs.Telling.{TellsLine}
use Rattle.pc_assembler.specs.FaultText.{assembler_line}
use Rattle.pc_assembler.specs.declared.fault.AssemblerFault.{AssemblerFault}
use Rattle.pc_assembler.specs.declared.fault.AssemblerFault.TheVariants.{NoMemory, Usage, ReadText, Text, WriteObject}

-- the status that tells what is due
abbrev pub assembler_status : AssemblerFault → ℕ
assembler_status NoMemory = 1
assembler_status Usage = 2
assembler_status (ReadText name) = 3
assembler_status (Text what) = 4
assembler_status (WriteObject name) = 5

-- What was due is reported, by the status and on the error output: 0 and nothing with success, and else the line of the fault.
abbrev pub Told : Option AssemblerFault → Streamed → Streamed → ℕ → Type 0
Told None old new code = (code ≡ 0) × (new ≡ old)
Told (Some due) old new code = TellsLine (assembler_line due) (assembler_status due) old new code
