-- What the first line says, as plain data.
use Rattle.pc_assembly.specs.declared.limits.Header.{Header as Kept}
use Rattle.pc_assembly.specs.Limits.{Header}

-- a header in memory, as plain data
abbrev pub header_of : Kept → Header
header_of header = record { limits = header.limits; arrays = header.arrays.items; registers = header.registers }
