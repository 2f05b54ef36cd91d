-- Laws of what programs are resolved to. Each is the contract of a function of laws.rt, which does nothing.
use Rattle.std.specs.Prelude.{◌≡◌}
use Rattle.pc_syntax.specs.Source.{SourceStatement, SourceProgram}
use Rattle.pc_check.specs.Names.{Names}
use Rattle.pc_check.specs.Sizes.{statement_size, size, resolved_size}
use Rattle.pc_check.specs.Resolution.{resolved_statement, resolved}

-- a statement with numbers for names has as many nodes as with names
abbrev pub StatementsKeepTheirSizes : Type 0
StatementsKeepTheirSizes = (s : SourceStatement) (names : Names) → statement_size (resolved_statement s names) ≡ statement_size s

-- and so does a program
abbrev pub ProgramsKeepTheirSizes : Type 0
ProgramsKeepTheirSizes = (program : SourceProgram) → resolved_size (resolved program) ≡ size program
