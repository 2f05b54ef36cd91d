-- How the checker's path shows what stands above a field.
use Rattle.std.specs.Prelude.{ℕ, ◌<◌, false, Option, Some, None, slice_index_or}
use Rattle.pc_machine.specs.declared.check.Path.{Path}
use Rattle.pc_machine.specs.Flaws.{Above}

-- the registers that are marked as written, and whether there was a print, read or more
abbrev pub above_of : Path → Above
above_of path = record { written = λ register. slice_index_or path.written register false; effect = path.effect }

-- a register that is there, of so many, if any
abbrev pub IsDest : ℕ → Option ℕ → Type 0
IsDest registers (Some register) = register < registers
IsDest registers None = Unit {0}
