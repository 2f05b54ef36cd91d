-- Which numbers have a text of their own. In memory they have their types; here they are numbers of any size.
use Rattle.std.specs.Prelude.{◌<◌, ◌^◌, List, FitsSigned}
use Rattle.std.specs.Int.{w32}
use Rattle.std.specs.List.{AllByRecursion}
use Rattle.pc_cert.specs.declared.certificate.Source.{Source}
use Rattle.pc_cert.specs.declared.certificate.Source.TheVariants as sources
use Rattle.pc_cert.specs.declared.certificate.WindowOperand.{WindowOperand}
use Rattle.pc_cert.specs.declared.certificate.WindowOperand.TheVariants as operands
use Rattle.pc_cert.specs.declared.certificate.Fact.{Fact}
use Rattle.pc_cert.specs.declared.certificate.Step.{Step}
use Rattle.pc_cert.specs.declared.certificate.Step.TheVariants.{Bring, Join, Open, Enter, Use}
use Rattle.pc_cert.specs.declared.certificate.Entry.{Entry}

-- a register is a byte, and a literal a word
abbrev pub SourceFits : Source → Type 0
SourceFits (sources.Register register) = register < 256
SourceFits (sources.Literal value) = FitsSigned w32 value

-- a parameter is below 2^16, and a literal is a word
abbrev pub OperandFits : WindowOperand → Type 0
OperandFits (operands.Parameter parameter) = parameter < 2 ^ 16
OperandFits (operands.Literal value) = FitsSigned w32 value

-- a fact of such a source and such an operand
pub record FactFits (fact : Fact) : Type 0 where
  pub source : SourceFits fact.source
  pub operand : OperandFits fact.operand

-- each place and each leaf is below 2^16
abbrev pub StepFits : Step → Type 0
StepFits (Bring place) = place < 2 ^ 16
StepFits (Join branch on_yes on_no) = (branch < 2 ^ 16) × (on_yes < 2 ^ 16) × (on_no < 2 ^ 16)
StepFits (Open leaf) = leaf < 2 ^ 16
StepFits (Enter leaf) = leaf < 2 ^ 16
StepFits (Use copy place) = (copy < 2 ^ 16) × (place < 2 ^ 16)

-- an entry's row and rank are below 2^32, and its facts and steps are such
pub record EntryFits (entry : Entry) : Type 0 where
  pub row : entry.row < 2 ^ 32
  pub rank : entry.rank < 2 ^ 32
  pub facts : AllByRecursion FactFits entry.facts
  pub steps : AllByRecursion StepFits entry.steps

-- each entry is such, as in every certificate in memory
abbrev pub HasNumbers : List Entry → Type 0
HasNumbers entries = AllByRecursion EntryFits entries
