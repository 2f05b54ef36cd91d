-- The tokens are few enough to be parsed, their symbols are small enough for calls to be inlined, and what refuses a step is a fault of
-- the text.
use Rattle.std.proofs.Common.{ℕ, List, ap, sym, subst, ◌∙◌}
use Rattle.std.proofs.lemmas.Result.{err_from_is_err_and}
use Rattle.pc_lexer.proofs.Numbering.{numbers_names}
use Rattle.pc_lexer.specs.models.Steps.{spellings}
use Rattle.pc_names.specs.Spellings.{names_in, names_of}
use Rattle.pc_parser.proofs.NamesInOrder.{names-below}
use Rattle.pc_calls.specs.Inlining.{symbol_bound}
use Rattle.pc_syntax.specs.Erasure.{program_of}
use Rattle.pc_syntax.specs.UnitErasure.{unit_of}
use Rattle.pc_word.specs.Exact.{checked, IsRefusal}
use Rattle.pc_check.specs.Checks.{check_cause, resolved_of}
use Rattle.pc_check.specs.Faults.{faults}
use Rattle.pc_check.specs.Resolution.{resolved}
use Rattle.pc_syntax.specs.Source.{SourceProgram}
use Rattle.pc_source.specs.Source.{IsRead}
use Rattle.pc_source.proofs.FrontEnd.{has_names, refused, uncalled, uncut, unparsed, written}
use Rattle.pc_source.proofs.Sources.{few_tokens}
use Rattle.pc_source.proofs.program.read_named.Goals as goal

pub returns-in_err-lexed : goal.returns-in_err-lexed
returns-in_err-lexed c =
    let p = err_from_is_err_and c.from_residual.result c.from_residual.ensures.1 in
    rw (p.1, p.2) (uncut c.in_err-lexed.field-0.0 c.args.text.now c.requires c.in_err-lexed.ensures.tokens)

pub parse_unit-requires : goal.parse_unit-requires
parse_unit-requires c = few_tokens c.args.text.now c.in_ok-lexed.lexed.tokens c.in_ok-lexed.ensures.tokens

pub returns-in_err-unit : goal.returns-in_err-unit
returns-in_err-unit c =
    let p = err_from_is_err_and c.from_residual-in_err-unit.result c.from_residual-in_err-unit.ensures.1 in
    rw (p.1, p.2) (unparsed c.in_err-unit.field-0.0 c.args.text.now c.in_ok-lexed.lexed.tokens c.requires c.in_ok-lexed.ensures.tokens
    c.in_err-unit.ensures.syntax c.in_err-unit.ensures.too_nested)

-- the symbols that the lexer gives are below 65,536, as there are no more tokens than that
pub inline-requires : goal.inline-requires
inline-requires c =
    let tokens = c.in_ok-lexed.lexed.tokens in
    let order = numbers_names c.args.text.now tokens c.in_ok-lexed.ensures.tokens in
    c.in_ok-unit.ensures.proper symbol_bound (names-below symbol_bound tokens order.1 (few_tokens c.args.text.now tokens c.in_ok-lexed.ensures.tokens))

pub returns-in_err-program : goal.returns-in_err-program
returns-in_err-program c =
    let p = err_from_is_err_and c.from_residual-in_err-program.result c.from_residual-in_err-program.ensures.1 in
    let read : IsRead c.args.text.now (unit_of c.in_ok-unit.unit) = record {
      few_bytes = c.requires;
      tokens = c.in_ok-lexed.lexed.tokens;
      cut = c.in_ok-lexed.ensures.tokens;
      read = c.in_ok-unit.ensures.read;
    } in
    rw (p.1, p.2) (uncalled c.in_err-program.field-0.0 c.args.text.now (unit_of c.in_ok-unit.unit) read c.in_err-program.ensures.exact)

pub returns-in_err-checked : goal.returns-in_err-checked
returns-in_err-checked c =
    let p = err_from_is_err_and c.from_residual-in_err-checked.result c.from_residual-in_err-checked.ensures.1 in
    let read : IsRead c.args.text.now (unit_of c.in_ok-unit.unit) = record {
      few_bytes = c.requires;
      tokens = c.in_ok-lexed.lexed.tokens;
      cut = c.in_ok-lexed.ensures.tokens;
      read = c.in_ok-unit.ensures.read;
    } in
    let made = written (unit_of c.in_ok-unit.unit) (program_of c.in_ok-program.program) c.in_ok-program.ensures.exact in
    rw (p.1, p.2) (refused c.in_err-checked.field-0.0 c.args.text.now (unit_of c.in_ok-unit.unit) read made.0
    (subst (λ (program : SourceProgram). IsRefusal (check_cause c.in_err-checked.field-0.0) (checked (faults program) (resolved program))) (sym made.1) c.in_err-checked.ensures))

pub returns-in-Ok : goal.returns-in-Ok
returns-in-Ok c =
    let tokens = c.in_ok-lexed.lexed.tokens in
    let order = numbers_names c.args.text.now tokens c.in_ok-lexed.ensures.tokens in
    let read : IsRead c.args.text.now (unit_of c.in_ok-unit.unit) = record {
      few_bytes = c.requires;
      tokens = tokens;
      cut = c.in_ok-lexed.ensures.tokens;
      read = c.in_ok-unit.ensures.read;
    } in
    let spelled = ap spellings c.as_slice.ensures.keys ∙ c.in_ok-lexed.ensures.names in
    has_names c.args.text.now (unit_of c.in_ok-unit.unit) (program_of c.in_ok-program.program) (resolved_of c.in_ok-checked.checked) (names_in c.in-Ok.names) read
    (c.in_ok-unit.ensures.proper symbol_bound (names-below symbol_bound tokens order.1 (few_tokens c.args.text.now tokens c.in_ok-lexed.ensures.tokens)))
    c.in_ok-program.ensures.exact c.in_ok-checked.ensures
    (c.in-Ok.ensures ∙ ap (λ (names : List (List ℕ)). names_of names (program_of c.in_ok-program.program)) spelled)
