-- Why a text is no source, as it is reported to a user.
use Rattle.std.specs.Prelude.{◌≡◌, ℕ, ◌<◌, ◌≤◌, min, List, [], length, slice_get, Option, Some, None, Ok, Err}
use Rattle.pc_word.specs.SourceLimits.{most_source, most_height, most_nodes}
use Rattle.pc_lexer.specs.declared.token.Token.{Token}
use Rattle.pc_lexer.specs.declared.error.LexError.{LexError}
use Rattle.pc_lexer.specs.declared.error.LexError.TheVariants as lex
use Rattle.pc_lexer.specs.Tokens.{lexed}
use Rattle.pc_syntax.specs.Unit.{TranslationUnit}
use Rattle.pc_parser.specs.Parse.{IsPlaceOfLine, NothingReadsUnit, NothingReadsUnitWithin}
use Rattle.pc_calls.specs.Refusals.{Refusal}
use Rattle.pc_calls.specs.Refusals as call
use Rattle.pc_check.specs.declared.error.CheckError.{CheckError}
use Rattle.pc_check.specs.declared.error.CheckError.TheVariants as check
use Rattle.pc_check.specs.Faults.{faults}
use Rattle.pc_check.specs.Sizes.{size}
use Rattle.pc_report.specs.declared.fault.SourceFault.{SourceFault}
use Rattle.pc_report.specs.declared.fault.SourceFault.TheVariants.{TooLong, BadByte, TooManyTokens, TooLarge, InlinedTooBig, InlinedTooHigh, AtLine}
use Rattle.pc_report.specs.declared.fault.LineFault.TheVariants as at_line
use Rattle.pc_calls.specs.Inlining.{inlined_unit, unit_refusals}
use Rattle.pc_source.specs.Source.{IsRead}

-- how a fault of the tokens is reported; want of memory is none
abbrev pub told_of_lex : LexError → Option SourceFault
told_of_lex (lex.BadByte offset) = Some (BadByte offset)
told_of_lex (lex.BadLiteral line) = Some (AtLine at_line.BadLiteral line)
told_of_lex (lex.OpenComment line) = Some (AtLine at_line.OpenComment line)
told_of_lex lex.TooManyTokens = Some TooManyTokens
told_of_lex lex.Memory = None

-- how it is reported that a unit cannot be inlined
abbrev pub told_of_call : Refusal → SourceFault
told_of_call (call.FunctionTwice line) = AtLine at_line.FunctionTwice line
told_of_call (call.EarlyReturn line) = AtLine at_line.EarlyReturn line
told_of_call (call.ArrayInFunction line) = AtLine at_line.ArrayInFunction line
told_of_call (call.LooseJump line) = AtLine at_line.LooseJump line
told_of_call (call.NoFunction line) = AtLine at_line.NoFunction line
told_of_call (call.Arguments line) = AtLine at_line.WrongArguments line
told_of_call call.TooBig = InlinedTooBig
told_of_call call.TooHigh = InlinedTooHigh

-- how a fault of the names and limits is reported; want of memory is none
abbrev pub told_of_check : CheckError → Option SourceFault
told_of_check (check.Undeclared line) = Some (AtLine at_line.Undeclared line)
told_of_check (check.Redeclared line) = Some (AtLine at_line.DeclaredTwice line)
told_of_check (check.NotArray line) = Some (AtLine at_line.NotArray line)
told_of_check (check.NotScalar line) = Some (AtLine at_line.NotScalar line)
told_of_check (check.BadSize line) = Some (AtLine at_line.BadSize line)
told_of_check (check.OutsideLoop line) = Some (AtLine at_line.OutsideLoop line)
told_of_check (check.TooManyScalars line) = Some (AtLine at_line.TooManyScalars line)
told_of_check (check.TooManyArrays line) = Some (AtLine at_line.TooManyArrays line)
told_of_check (check.TooManyElements line) = Some (AtLine at_line.TooManyElements line)
told_of_check (check.TooManyValues line) = Some (AtLine at_line.TooManyValues line)
told_of_check (check.TooDeep line) = Some (AtLine at_line.ExpressionTooDeep line)
told_of_check check.Memory = None

-- The text has this fault, the first in the order of the work: its length, its tokens, the grammar, its functions and calls, its
-- names and limits, its size. Of the grammar: nothing that begins with the tokens up to a place is read, and the line is that place's.
pub data HasFault (text : List ℕ) : (fault : SourceFault) → Type 0 where
  Long : most_source < length text → HasFault text TooLong
  Uncut : {error : LexError} {fault : SourceFault} →
      length text ≤ most_source →
      lexed text ≡ Err error →
      told_of_lex error ≡ Some fault →
      HasFault text fault
  Unread : {tokens : List Token} {at line : ℕ} →
      length text ≤ most_source →
      lexed text ≡ Ok tokens →
      IsPlaceOfLine tokens at line →
      NothingReadsUnit tokens at →
      HasFault text (AtLine at_line.Syntax line)
  Nested : {tokens : List Token} {at line : ℕ} →
      length text ≤ most_source →
      lexed text ≡ Ok tokens →
      IsPlaceOfLine tokens at line →
      NothingReadsUnitWithin most_height tokens at →
      250 ≤ at →
      HasFault text (AtLine at_line.NestedTooDeep line)
  Uncallable : {unit : TranslationUnit} {why : Refusal} {fault : SourceFault} →
      IsRead text unit →
      slice_get (unit_refusals unit) 0 ≡ Some why →
      told_of_call why ≡ fault →
      HasFault text fault
  Faulty : {unit : TranslationUnit} {error : CheckError} {fault : SourceFault} →
      IsRead text unit →
      unit_refusals unit ≡ [] →
      slice_get (faults (inlined_unit unit)) 0 ≡ Some error →
      told_of_check error ≡ Some fault →
      HasFault text fault
  Large : {unit : TranslationUnit} {nodes : ℕ} →
      IsRead text unit →
      unit_refusals unit ≡ [] →
      faults (inlined_unit unit) ≡ [] →
      most_nodes < size (inlined_unit unit) →
      nodes ≡ min (size (inlined_unit unit)) 4294967295 →
      HasFault text (TooLarge nodes)
