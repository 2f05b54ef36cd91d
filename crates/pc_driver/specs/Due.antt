-- What a program tells at its end, and the status with which it ends.
use Rattle.std.specs.Prelude.{◌≡◌, ℕ, Option, Some, None}
use Rattle.pc_word.specs.declared.item.TrapKind.{TrapKind}
use Rattle.pc_word.specs.declared.item.TrapKind.TheVariants.{DivideByZero, OutOfBounds, EndOfInput}
use Rattle.pc_report.specs.declared.fault.ToolFault.{ToolFault}
use Rattle.pc_report.specs.declared.fault.ToolFault.TheVariants as fault
use Rattle.pc_report.specs.FaultLine.{fault_line}
use Rattle.pc_driver.specs.Streams.{Streamed}
use Rattle.pc_driver.specs.Telling.{TellsLine}

-- the status of a trap
abbrev pub trap_status : TrapKind → ℕ
trap_status DivideByZero = 10
trap_status OutOfBounds = 11
trap_status EndOfInput = 12

-- the status that tells a fault
abbrev pub fault_status : ToolFault → ℕ
fault_status (fault.NoMemory who) = 1
fault_status (fault.Usage who) = 2
fault_status (fault.ReadFile who name) = 3
fault_status (fault.ReadInput who) = 3
fault_status (fault.Source who what) = 4
fault_status (fault.Object who what) = 4
fault_status (fault.Input who what) = 4
fault_status (fault.WriteFile who name) = 5
fault_status (fault.WriteOutput who) = 5
fault_status (fault.Budget number) = 6
fault_status (fault.Machine what) = 7
fault_status (fault.Trap kind line) = trap_status kind

-- What was due is reported, by the status and on the error output: 0 and nothing with success, and else the line of the fault.
abbrev pub Told : Option ToolFault → Streamed → Streamed → ℕ → Type 0
Told None old new code = (code ≡ 0) × (new ≡ old)
Told (Some due) old new code = TellsLine (fault_line due) (fault_status due) old new code
