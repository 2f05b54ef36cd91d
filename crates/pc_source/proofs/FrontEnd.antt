-- The faults of a text, from the refusals of the steps that read it.
use Rattle.std.proofs.Common.{◌≡◌, true, ℕ, ◌≤◌, List, [], ◌∷◌, length, refl, sym, ap, ◌∙◌}
use Rattle.std.specs.Prelude.{Option, Some, None, option_map, slice_get, Result, Ok, Err, IsErrOf}
use Rattle.pc_word.specs.Exact.{checked, IsRefusal}
use Rattle.pc_word.specs.SourceLimits.{most_source, most_height}
use Rattle.pc_lexer.specs.declared.token.Token.{Token}
use Rattle.pc_lexer.specs.declared.error.LexError.{LexError}
use Rattle.pc_lexer.specs.declared.error.LexError.TheVariants as lex
use Rattle.pc_lexer.specs.Tokens.{lexed, lex_cause, names_of_text}
use Rattle.pc_syntax.specs.Source.{SourceProgram, ResolvedProgram}
use Rattle.pc_syntax.specs.Proper.{unit_is_proper}
use Rattle.pc_syntax.specs.Unit.{TranslationUnit}
use Rattle.pc_calls.specs.Inlining.{inlined_unit, inlining, symbol_bound, unit_refusals}
use Rattle.pc_calls.specs.Refusals.{Refusal}
use Rattle.pc_inline.specs.declared.error.InlineError.{InlineError}
use Rattle.pc_inline.specs.Inlined.{inline_cause}
use Rattle.pc_syntax.specs.declared.unit.SourceUnit.{SourceUnit}
use Rattle.pc_parser.specs.declared.unit.ParseError.{ParseError}
use Rattle.pc_parser.specs.declared.unit.ParseError.TheVariants as parse
use Rattle.pc_names.specs.Spellings.{ProgramNames, names_of}
use Rattle.pc_parser.specs.Parse.{IsPlaceOfLine, NothingReadsUnit, NothingReadsUnitWithin}
use Rattle.pc_check.specs.declared.error.CheckError.{CheckError}
use Rattle.pc_check.specs.declared.error.CheckError.TheVariants as check
use Rattle.pc_check.specs.Checks.{check_cause}
use Rattle.pc_check.specs.Faults.{faults}
use Rattle.pc_check.specs.Resolution.{resolved}
use Rattle.pc_check.proofs.ExactLaws.{refused-first}
use Rattle.pc_source.specs.Source.{IsRead}
use Rattle.pc_source.specs.SourceFaults.{Uncut, Unread, Nested, Uncallable, Faulty, told_of_call}
use Rattle.pc_source.specs.models.Refusals.{refusal_of, refusal_of_lex, refusal_of_parse, refusal_of_inline, refusal_of_check}
use Rattle.pc_source.specs.Reading.{HasNames, RefusesText}

-- a text that is not cut into tokens
pub uncut : (error : LexError) (text : List ℕ) → length text ≤ most_source → IsRefusal (lex_cause error) (lexed text) → RefusesText (refusal_of_lex error) text
uncut (lex.BadByte offset) text few first = Uncut few first refl
uncut (lex.BadLiteral line) text few first = Uncut few first refl
uncut (lex.OpenComment line) text few first = Uncut few first refl
uncut lex.TooManyTokens text few first = Uncut few first refl
uncut lex.Memory text few first = tt

abbrev failed : ParseError → Result SourceUnit ParseError
failed error = Err error

-- tokens that are no program
pub unparsed : (error : ParseError) (text : List ℕ) (tokens : List Token) → length text ≤ most_source → lexed text ≡ Ok tokens
    → ((at line : ℕ) → IsErrOf (failed error) (parse.Syntax at line) → IsPlaceOfLine tokens at line × NothingReadsUnit tokens at)
    → ((at line : ℕ) → IsErrOf (failed error) (parse.TooNested at line) → IsPlaceOfLine tokens at line × NothingReadsUnitWithin most_height tokens at × (250 ≤ at))
    → RefusesText (refusal_of_parse error) text
unparsed (parse.Syntax at line) text tokens few cut syntax nested = let h = syntax at line refl in Unread few cut h.0 h.1
unparsed (parse.TooNested at line) text tokens few cut syntax nested = let h = nested at line refl in Nested few cut h.0 h.1 h.2
unparsed parse.Memory text tokens few cut syntax nested = tt

-- the refusals of a unit, of which one is told
told_first : (told : Option Refusal) (all : List Refusal) (program : SourceProgram) (text : List ℕ) (unit : TranslationUnit) → IsRead text unit
    → unit_refusals unit ≡ all → IsRefusal told (checked all program) → RefusesText (refusal_of (option_map told_of_call told)) text
told_first None all program text unit read same is = tt
told_first (Some why) [] program text unit read same is = absurd cc
told_first (Some why) (first ∷ others) program text unit read same is =
    let one : first ≡ why = cc in
    Uncallable read (ap (λ (list : List Refusal). slice_get list 0) same ∙ ap Some one) refl

-- a unit that cannot be inlined
pub uncalled : (error : InlineError) (text : List ℕ) (unit : TranslationUnit) → IsRead text unit
    → IsRefusal (inline_cause error) (inlining unit) → RefusesText (refusal_of_inline error) text
uncalled error text unit read is = told_first (inline_cause error) (unit_refusals unit) (inlined_unit unit) text unit read refl is

-- what is given has no faults, and is what was checked
given_checked : {X F : Type 0} (all : List F) (found given : X) → checked all found ≡ Ok given → (all ≡ []) × (found ≡ given)
given_checked [] found given is = (refl, cc)
given_checked (first ∷ others) found given is = absurd cc

-- a unit that can be inlined has no refusal, and what is given is its inlined program
pub written : (unit : TranslationUnit) (given : SourceProgram) → inlining unit ≡ Ok given → (unit_refusals unit ≡ []) × (inlined_unit unit ≡ given)
written unit given is = given_checked (unit_refusals unit) (inlined_unit unit) given is

-- a text that is read, inlined and checked, and whose names are given
pub has_names : (text : List ℕ) (unit : TranslationUnit) (program : SourceProgram) (found : ResolvedProgram) (names : ProgramNames) → IsRead text unit
    → unit_is_proper symbol_bound unit ≡ true → inlining unit ≡ Ok program → checked (faults program) (resolved program) ≡ Ok found
    → names ≡ names_of (names_of_text text) program → HasNames text found names
has_names text unit program found names read proper inlined is named =
    let made = written unit program inlined in
    let clean = given_checked (faults program) (resolved program) found is in
    record {
      is = record {
        unit = unit;
        read = read;
        proper = proper;
        callable = made.0;
        faultless = ap faults made.1 ∙ clean.0;
        is_resolved = ap resolved made.1 ∙ clean.1;
      };
      named = named ∙ ap (names_of (names_of_text text)) (sym made.1);
    }

-- a program with a fault
pub refused : (error : CheckError) (text : List ℕ) (unit : TranslationUnit) → IsRead text unit → unit_refusals unit ≡ []
    → IsRefusal (check_cause error) (checked (faults (inlined_unit unit)) (resolved (inlined_unit unit))) → RefusesText (refusal_of_check error) text
refused check.Memory text unit read callable is = tt
refused (check.Undeclared line) text unit read callable is = Faulty read callable (refused-first (check.Undeclared line) (faults (inlined_unit unit)) (resolved (inlined_unit unit)) is) refl
refused (check.Redeclared line) text unit read callable is = Faulty read callable (refused-first (check.Redeclared line) (faults (inlined_unit unit)) (resolved (inlined_unit unit)) is) refl
refused (check.NotArray line) text unit read callable is = Faulty read callable (refused-first (check.NotArray line) (faults (inlined_unit unit)) (resolved (inlined_unit unit)) is) refl
refused (check.NotScalar line) text unit read callable is = Faulty read callable (refused-first (check.NotScalar line) (faults (inlined_unit unit)) (resolved (inlined_unit unit)) is) refl
refused (check.BadSize line) text unit read callable is = Faulty read callable (refused-first (check.BadSize line) (faults (inlined_unit unit)) (resolved (inlined_unit unit)) is) refl
refused (check.OutsideLoop line) text unit read callable is = Faulty read callable (refused-first (check.OutsideLoop line) (faults (inlined_unit unit)) (resolved (inlined_unit unit)) is) refl
refused (check.TooManyScalars line) text unit read callable is = Faulty read callable (refused-first (check.TooManyScalars line) (faults (inlined_unit unit)) (resolved (inlined_unit unit)) is) refl
refused (check.TooManyArrays line) text unit read callable is = Faulty read callable (refused-first (check.TooManyArrays line) (faults (inlined_unit unit)) (resolved (inlined_unit unit)) is) refl
refused (check.TooManyElements line) text unit read callable is = Faulty read callable (refused-first (check.TooManyElements line) (faults (inlined_unit unit)) (resolved (inlined_unit unit)) is) refl
refused (check.TooManyValues line) text unit read callable is = Faulty read callable (refused-first (check.TooManyValues line) (faults (inlined_unit unit)) (resolved (inlined_unit unit)) is) refl
refused (check.TooDeep line) text unit read callable is = Faulty read callable (refused-first (check.TooDeep line) (faults (inlined_unit unit)) (resolved (inlined_unit unit)) is) refl
