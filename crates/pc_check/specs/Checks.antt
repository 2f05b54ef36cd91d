-- What the answer of a check is.
use Rattle.std.specs.Prelude.{Option, Some, None}
use Rattle.pc_syntax.specs.Source.{ResolvedProgram}
use Rattle.pc_syntax.specs.Erasure.{list_of}
use Rattle.pc_check.specs.declared.checked.Checked.{Checked}
use Rattle.pc_check.specs.declared.error.CheckError.{CheckError}
use Rattle.pc_check.specs.declared.error.CheckError.TheVariants as fault

-- the fault that an error tells of; want of memory is no fault of the program
abbrev pub check_cause : CheckError → Option CheckError
check_cause fault.Memory = None
check_cause e = Some e

-- the program that was checked, as it is resolved
abbrev pub resolved_of : Checked → ResolvedProgram
resolved_of checked = record { scalars = checked.scalars; arrays = checked.arrays; initial = checked.initial; body = list_of checked.body.items }
