-- What the refusals of a step are to one that reads a text. Want of memory stays want of memory.
use Rattle.std.specs.Prelude.{Option, Some, None, option_map}
use Rattle.pc_lexer.specs.declared.error.LexError.{LexError}
use Rattle.pc_parser.specs.declared.unit.ParseError.{ParseError}
use Rattle.pc_parser.specs.declared.unit.ParseError.TheVariants as parse
use Rattle.pc_check.specs.declared.error.CheckError.{CheckError}
use Rattle.pc_report.specs.declared.fault.SourceFault.{SourceFault}
use Rattle.pc_report.specs.declared.fault.SourceFault.TheVariants as source
use Rattle.pc_report.specs.declared.fault.LineFault.TheVariants as at_line
use Rattle.pc_source.specs.declared.refusal.Refusal.{Refusal}
use Rattle.pc_source.specs.declared.refusal.Refusal.TheVariants as refusal
use Rattle.pc_inline.specs.declared.error.InlineError.{InlineError}
use Rattle.pc_inline.specs.Inlined.{inline_cause}
use Rattle.pc_source.specs.SourceFaults.{told_of_lex, told_of_call, told_of_check}

-- the refusal of a text with a fault, if it has one, and else want of memory
abbrev pub refusal_of : Option SourceFault → Refusal
refusal_of (Some fault) = refusal.Source fault
refusal_of None = refusal.Memory

-- a refusal of the lexer
abbrev pub refusal_of_lex : LexError → Refusal
refusal_of_lex error = refusal_of (told_of_lex error)

-- a refusal of the parser
abbrev pub refusal_of_parse : ParseError → Refusal
refusal_of_parse (parse.Syntax at line) = refusal.Source (source.AtLine at_line.Syntax line)
refusal_of_parse (parse.TooNested at line) = refusal.Source (source.AtLine at_line.NestedTooDeep line)
refusal_of_parse parse.Memory = refusal.Memory

-- a refusal of inlining
abbrev pub refusal_of_inline : InlineError → Refusal
refusal_of_inline error = refusal_of (option_map told_of_call (inline_cause error))

-- a refusal of the checker
abbrev pub refusal_of_check : CheckError → Refusal
refusal_of_check error = refusal_of (told_of_check error)
