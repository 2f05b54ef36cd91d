-- What a refusal of the lowering is to the compiler.
use Rattle.pc_lower.specs.declared.error.LowerError.{LowerError}
use Rattle.pc_lower.specs.declared.error.LowerError.TheVariants as lower
use Rattle.pc_compile.specs.declared.error.CompileError.{CompileError}
use Rattle.pc_compile.specs.declared.error.CompileError.TheVariants as compile

-- the same refusal
abbrev pub error_of_lowering : LowerError → CompileError
error_of_lowering (lower.TooLarge nodes) = compile.TooLarge nodes
error_of_lowering lower.Memory = compile.Memory
