use Rattle.std.proofs.Common.{◌≡◌, sym, ap, ◌∙◌, subst, length}
use Rattle.std.specs.Prelude.{Err}
use Rattle.pc_word.specs.SourceLimits.{most_height}
use Rattle.pc_syntax.specs.UnitErasure.{unit_of}
use Rattle.pc_parser.specs.Units.{ReadsUnit}
use Rattle.pc_parser.specs.declared.unit.ParseError.TheVariants as errors
use Rattle.pc_parser.specs.models.Outcome.{Parsed}
use Rattle.pc_parser.specs.models.UnitParser.{unit_at}
use Rattle.pc_parser.specs.models.Parsing.{FailsParsing}
use Rattle.pc_parser.specs.Parse.{RefusesUnit}
use Rattle.pc_parser.specs.models.Parsing.{FailsInside, located}
use Rattle.pc_parser.proofs.Top.{fails-inside, syntax-told, nested-told, refused-none}
use Rattle.pc_parser.proofs.UnitTop.{units, unit-read, unit-proper}
use Rattle.pc_parser.proofs.unit.parse_unit.Goals as goal

-- a failure's place is among the tokens
pub located-requires-clause-inside : goal.located-requires-clause-inside
located-requires-clause-inside c =
    let fails : FailsParsing c.in-Err.failure (unit_at c.args.tokens.now most_height) =
    subst (λ tokens. FailsParsing c.in-Err.failure (unit_at tokens most_height)) c.as_slice.ensures c.in-Err.ensures in
    subst (λ tokens. FailsInside c.in-Err.failure (length tokens)) (sym c.as_slice-in-Err.ensures) (fails-inside unit_at ReadsUnit units c.args.tokens.now c.in-Err.failure fails)

-- what is given is read, and proper
pub returns-in-Ok-clause-read : goal.returns-in-Ok-clause-read
returns-in-Ok-clause-read c =
    let parsed = c.in-Ok.parsed in
    unit-read c.args.tokens.now (unit_of parsed.tree) parsed.height parsed.next
    (subst (λ tokens. unit_at tokens most_height ≡ Parsed (unit_of parsed.tree) parsed.height parsed.next) c.as_slice.ensures c.in-Ok.ensures)

pub returns-in-Ok-clause-proper : goal.returns-in-Ok-clause-proper
returns-in-Ok-clause-proper c = λ base names.
    let parsed = c.in-Ok.parsed in
    unit-proper c.args.tokens.now (unit_of parsed.tree) parsed.height parsed.next base
    (subst (λ tokens. unit_at tokens most_height ≡ Parsed (unit_of parsed.tree) parsed.height parsed.next) c.as_slice.ensures c.in-Ok.ensures) names

-- a refusal comes only where there is no such unit
pub returns-in-Err-clause-refused : goal.returns-in-Err-clause-refused
returns-in-Err-clause-refused c = λ refuses unit read.
    let fails : FailsParsing c.in-Err.failure (unit_at c.args.tokens.now most_height) =
    subst (λ tokens. FailsParsing c.in-Err.failure (unit_at tokens most_height)) c.as_slice.ensures c.in-Err.ensures in
    refused-none unit_at ReadsUnit units c.args.tokens.now c.in-Err.failure
    (λ memory. subst (λ error. RefusesUnit (Err error)) (c.located.ensures ∙ ap (located c.as_slice-in-Err.result.now) memory) refuses) fails unit read.0 read.1 read.2

-- where a syntax error is told
pub returns-in-Err-clause-syntax : goal.returns-in-Err-clause-syntax
returns-in-Err-clause-syntax c = λ at line is.
    let fails : FailsParsing c.in-Err.failure (unit_at c.args.tokens.now most_height) =
    subst (λ tokens. FailsParsing c.in-Err.failure (unit_at tokens most_height)) c.as_slice.ensures c.in-Err.ensures in
    let told : c.located.result ≡ errors.Syntax at line = cc in
    let told' = syntax-told unit_at ReadsUnit units c.args.tokens.now c.in-Err.failure at line fails
    (ap (λ tokens. located tokens c.in-Err.failure) (sym c.as_slice-in-Err.ensures) ∙ sym c.located.ensures ∙ told) in
    (told'.0, λ others unit height agree reads. told'.1 others unit height agree reads)

-- where too much height is told
pub returns-in-Err-clause-too_nested : goal.returns-in-Err-clause-too_nested
returns-in-Err-clause-too_nested c = λ at line is.
    let fails : FailsParsing c.in-Err.failure (unit_at c.args.tokens.now most_height) =
    subst (λ tokens. FailsParsing c.in-Err.failure (unit_at tokens most_height)) c.as_slice.ensures c.in-Err.ensures in
    let told : c.located.result ≡ errors.TooNested at line = cc in
    let told' = nested-told unit_at ReadsUnit units c.args.tokens.now c.in-Err.failure at line fails
    (ap (λ tokens. located tokens c.in-Err.failure) (sym c.as_slice-in-Err.ensures) ∙ sym c.located.ensures ∙ told) in
    (told'.0, (λ others unit height agree low reads. told'.1 others unit height agree low reads), told'.2)
