-- What the viewer tells at its end, and the status with which it ends.
use Rattle.std.specs.Prelude.{◌≡◌, ℕ, Option, Some, None}
use Rattle.pc_report.specs.declared.fault.Speaker.TheVariants.{Pview}
use Rattle.pc_report.specs.declared.fault.ToolFault.{ToolFault}
use Rattle.pc_report.specs.declared.fault.ToolFault.TheVariants as tool
use Rattle.pc_report.specs.FaultLine.{fault_line}
use Rattle.pc_driver.specs.Streams.{Streamed}
use Rattle.pc_driver.specs.Telling.{TellsLine}
use Rattle.pc_viewer.specs.declared.fault.ViewFault.{ViewFault}
use Rattle.pc_viewer.specs.declared.fault.ViewFault.TheVariants.{NoMemory, Usage, ReadObject, Object, WriteOutput}

-- what is due, as the programs tell it
abbrev pub fault_told : ViewFault → ToolFault
fault_told NoMemory = tool.NoMemory Pview
fault_told Usage = tool.Usage Pview
fault_told (ReadObject name) = tool.ReadFile Pview name
fault_told (Object what) = tool.Object Pview what
fault_told WriteOutput = tool.WriteOutput Pview

-- the status that tells it
abbrev pub view_status : ViewFault → ℕ
view_status NoMemory = 1
view_status Usage = 2
view_status (ReadObject name) = 3
view_status (Object what) = 4
view_status WriteOutput = 5

-- What was due is reported, by the status and on the error output: 0 and nothing with success, and else the line of the fault.
abbrev pub Told : Option ViewFault → Streamed → Streamed → ℕ → Type 0
Told None old new code = (code ≡ 0) × (new ≡ old)
Told (Some due) old new code = TellsLine (fault_line (fault_told due)) (view_status due) old new code
