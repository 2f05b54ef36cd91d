-- What a stop of a part of the reader is due to, if not to want of memory.
use Rattle.std.specs.Prelude.{Option, Some, None}
use Rattle.pc_cert.specs.declared.refusal.Refusal.{Refusal}
use Rattle.pc_cert.specs.declared.refusal.Halt.{Halt}
use Rattle.pc_cert.specs.declared.refusal.Halt.TheVariants as halts

-- a refusal tells itself; want of memory has no cause
abbrev pub halt_cause : Halt → Option Refusal
halt_cause halts.Memory = None
halt_cause (halts.Refused refusal) = Some refusal
