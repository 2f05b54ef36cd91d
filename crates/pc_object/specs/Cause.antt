-- What a refusal of bytes is due to, if not to want of memory.
use Rattle.std.specs.Prelude.{Option, Some, None}
use Rattle.pc_object.specs.declared.refusal.ObjectError.{ObjectError}
use Rattle.pc_object.specs.declared.refusal.ObjectError.TheVariants.{BadMagic, Truncated, BadField, Trailing, Memory}

-- each refusal tells itself; want of memory has no cause
abbrev pub object_cause : ObjectError → Option ObjectError
object_cause BadMagic = Some BadMagic
object_cause (Truncated offset) = Some (Truncated offset)
object_cause (BadField offset flaw) = Some (BadField offset flaw)
object_cause (Trailing offset) = Some (Trailing offset)
object_cause Memory = None
