-- What a stop of the reading of a line is due to, if not to want of memory.
use Rattle.std.specs.Prelude.{Option, Some, None}
use Rattle.pc_assembly.specs.declared.error.Complaint.{Complaint}
use Rattle.pc_assembly.specs.declared.error.Halt.{Halt}
use Rattle.pc_assembly.specs.declared.error.Halt.TheVariants.{Memory, Unexpected}

-- a complaint tells itself; want of memory has no cause
abbrev pub halt_cause : Halt → Option Complaint
halt_cause Memory = None
halt_cause (Unexpected complaint) = Some complaint
