-- What is said of a certificate that is not accepted.
use Rattle.std.specs.Prelude.{ℤ, List}
use Rattle.pc_table.specs.Table.{Table}
use Rattle.pc_machine.specs.MachineCode.{RowCode}
use Rattle.pc_cert.specs.declared.certificate.Entry.{Entry}
use Rattle.pc_accepted.specs.Accepted.{Rejects}
use Rattle.pc_checking.specs.declared.error.CheckError.{CheckError}
use Rattle.pc_checking.specs.declared.error.CheckError.TheVariants.{Rejected, Memory}

-- it is refused so; want of memory says nothing of it
abbrev pub WhyNot : Table → List (List ℤ) → RowCode → List Entry → CheckError → Type 0
WhyNot table words code entries (Rejected rejection) = Rejects table words code entries rejection
WhyNot table words code entries Memory = Unit {0}
