-- What a refusal of the lowering is to one that cuts a program.
use Rattle.pc_lower.specs.declared.error.LowerError.{LowerError}
use Rattle.pc_lower.specs.declared.error.LowerError.TheVariants as lower
use Rattle.pc_middle.specs.declared.error.CutError.{CutError}
use Rattle.pc_middle.specs.declared.error.CutError.TheVariants as cut

-- the same refusal
abbrev pub error_of_lowering : LowerError → CutError
error_of_lowering (lower.TooLarge nodes) = cut.TooLarge nodes
error_of_lowering lower.Memory = cut.Memory
