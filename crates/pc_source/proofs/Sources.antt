-- A text is one unit at most, and which texts are no source.
use Rattle.std.proofs.Common.{◌≡◌, ℕ, ◌+◌, ◌<◌, ◌≤◌, List, [], ◌∷◌, length, Option, Some, None}
use Rattle.std.proofs.Common.{refl, sym, ◌∙◌, ap, subst, cond, Bool, true, false, arith}
use Rattle.std.proofs.lemmas.Bool.Decides.{nat_tests}
use Rattle.std.specs.Prelude.{Result, Ok, Err, nat_lt, slice_get}
use Rattle.pc_word.specs.SourceLimits.{most_source, most_tokens, most_height, most_nodes}
use Rattle.pc_lexer.specs.declared.token.Token.{Token}
use Rattle.pc_lexer.specs.declared.token.TokenKind.{TokenKind}
use Rattle.pc_lexer.specs.declared.piece.Shape.{Shape}
use Rattle.pc_lexer.specs.declared.error.LexError.{LexError}
use Rattle.pc_lexer.specs.declared.error.LexError.TheVariants as lex
use Rattle.pc_lexer.specs.Cut.{Cut, Done, Next, Stuck, line_behind, pieces_of}
use Rattle.pc_lexer.specs.Tokens.{kind_of, names_after_piece, token_before, read, lexed}
use Rattle.pc_syntax.specs.Unit.{TranslationUnit}
use Rattle.pc_parser.specs.Parse.{IsUnitReadWithin}
use Rattle.pc_parser.proofs.UnitTop.{one-unit}
use Rattle.pc_check.specs.declared.error.CheckError.{CheckError}
use Rattle.pc_check.specs.Faults.{faults}
use Rattle.pc_check.specs.Sizes.{size}
use Rattle.pc_report.specs.declared.fault.SourceFault.{SourceFault}
use Rattle.pc_driver.proofs.Results.{ok_same}
use Rattle.pc_calls.specs.Inlining.{inlined_unit, unit_refusals}
use Rattle.pc_source.specs.Source.{IsRead, IsNoSource}
use Rattle.pc_calls.specs.Refusals.{Refusal}
use Rattle.pc_source.specs.SourceFaults.{HasFault, Long, Uncut, Unread, Nested, Uncallable, Faulty, Large}

-- ---- one unit

-- a text is read as one unit
pub read_once : (text : List ℕ) (one other : TranslationUnit) → IsRead text one → IsRead text other → one ≡ other
read_once text one other r s =
    let same : r.tokens ≡ s.tokens = ok_same r.tokens s.tokens (lexed text) r.cut s.cut in
    let here : IsUnitReadWithin most_height s.tokens one = subst (λ tokens. IsUnitReadWithin most_height tokens one) same r.read in
    (one-unit s.tokens one other here.0 s.read.0 here.2 s.read.2).0

-- ---- texts that are no source

-- a text that is too long
long_is_none : (text : List ℕ) → most_source < length text → IsNoSource text
long_is_none text long unit source = let few : length text ≤ most_source = source.read.few_bytes in omega arith

-- a text without tokens
uncut_is_none : (text : List ℕ) (error : LexError) → lexed text ≡ Err error → IsNoSource text
uncut_is_none text error first unit source =
    let cut : lexed text ≡ Ok source.read.tokens = source.read.cut in
    cc

-- a text whose tokens no program reads
unread_is_none : (text : List ℕ) (tokens : List Token) → lexed text ≡ Ok tokens
    → ((unit : TranslationUnit) → IsUnitReadWithin most_height tokens unit → ⊥) → IsNoSource text
unread_is_none text tokens cut nothing unit source =
    let same : source.read.tokens ≡ tokens = ok_same source.read.tokens tokens (lexed text) source.read.cut cut in
    nothing unit (subst (λ tokens. IsUnitReadWithin most_height tokens unit) same source.read.read)

-- a text whose unit cannot be inlined
uncallable_is_none : (text : List ℕ) (found : TranslationUnit) (why : Refusal) → IsRead text found → slice_get (unit_refusals found) 0 ≡ Some why → IsNoSource text
uncallable_is_none text found why read first unit source =
    let same : found ≡ unit = read_once text found unit read source.read in
    let none : unit_refusals found ≡ [] = ap unit_refusals same ∙ source.callable in
    let nothing : slice_get [] 0 ≡ Some why = subst (λ list. slice_get list 0 ≡ Some why) none first in
    cc

-- a text whose program has a fault
faulty_is_none : (text : List ℕ) (found : TranslationUnit) (error : CheckError) → IsRead text found → slice_get (faults (inlined_unit found)) 0 ≡ Some error → IsNoSource text
faulty_is_none text found error read first unit source =
    let same : found ≡ unit = read_once text found unit read source.read in
    let none : faults (inlined_unit found) ≡ [] = ap (λ (u : TranslationUnit). faults (inlined_unit u)) same ∙ source.faultless in
    let nothing : slice_get [] 0 ≡ Some error = subst (λ list. slice_get list 0 ≡ Some error) none first in
    cc

-- a text whose program has too large a flow graph
large_is_none : (text : List ℕ) (found : TranslationUnit) → IsRead text found → most_nodes < size (inlined_unit found) → IsNoSource text
large_is_none text found read many unit source =
    let same : found ≡ unit = read_once text found unit read source.read in
    let few : size (inlined_unit found) ≤ most_nodes = subst (λ (u : TranslationUnit). size (inlined_unit u) ≤ most_nodes) (sym same) source.few_nodes in
    omega (arith, few, many)

-- a text with a fault is no source
pub fault_is_none : (text : List ℕ) (fault : SourceFault) → HasFault text fault → IsNoSource text
fault_is_none text fault (Long long) = long_is_none text long
fault_is_none text fault (Uncut {error} few first told) = uncut_is_none text error first
fault_is_none text fault (Unread {tokens} few cut place nothing) =
    unread_is_none text tokens cut (λ unit read. nothing tokens unit read.0 (λ place below. refl) read.2)
fault_is_none text fault (Nested {tokens} few cut place nothing far) =
    unread_is_none text tokens cut (λ unit read. nothing tokens unit read.0 (λ place below. refl) read.1 read.2)
fault_is_none text fault (Uncallable {unit} {why} read first told) = uncallable_is_none text unit why read first
fault_is_none text fault (Faulty {unit} {error} read callable first told) = faulty_is_none text unit error read first
fault_is_none text fault (Large {unit} read callable faultless many told) = large_is_none text unit read many

-- ---- no more tokens than there may be

few_next : (b : Bool) (begun : ℕ) (token : Token) (r : Result (List Token) LexError) (tokens : List Token) → nat_lt begun most_tokens ≡ b
    → ((rest : List Token) → r ≡ Ok rest → begun + 1 ≤ most_tokens → begun + 1 + length rest ≤ most_tokens)
    → cond b (token_before token r) (Err lex.TooManyTokens) ≡ Ok tokens → begun + length tokens ≤ most_tokens
few_next false begun token r tokens is more e = absurd cc
few_next true begun token (Err fault) tokens is more e = absurd cc
few_next true begun token (Ok rest) tokens is more e =
    let below : begun < most_tokens = grind (arith, nat_tests) in
    let same : length (token ∷ rest) ≡ length tokens = ap length (ok_same (token ∷ rest) tokens (Ok (token ∷ rest)) refl e) in
    let most : begun + 1 + length rest ≤ most_tokens = more rest refl (omega arith) in
    omega arith

few_of : (kind : Option TokenKind) (begun : ℕ) (names : List (List ℕ)) (before spelling : List ℕ) (shape : Shape) (others : Cut) (tokens : List Token)
    → (read begun names others ≡ Ok tokens → begun + length tokens ≤ most_tokens)
    → ((rest : List Token) → read (begun + 1) (names_after_piece names spelling shape) others ≡ Ok rest → begun + 1 ≤ most_tokens → begun + 1 + length rest ≤ most_tokens)
    → elim kind as (λ _. Result (List Token) LexError) [
      | None ↦ read begun names others
      | Some kind ↦ cond (nat_lt begun most_tokens)
          (token_before (record { kind = kind; line = line_behind before }) (read (begun + 1) (names_after_piece names spelling shape) others)) (Err lex.TooManyTokens)
    ] ≡ Ok tokens → begun + length tokens ≤ most_tokens
few_of None begun names before spelling shape others tokens same more e = same e
few_of (Some kind) begun names before spelling shape others tokens same more e =
    few_next (nat_lt begun most_tokens) begun (record { kind = kind; line = line_behind before }) (read (begun + 1) (names_after_piece names spelling shape) others) tokens refl more e

nothing_read : (none tokens : List Token) → length none ≡ 0 → (r : Result (List Token) LexError) → r ≡ Ok none → r ≡ Ok tokens → length tokens ≡ 0
nothing_read none tokens z r d e = ap length (sym (ok_same none tokens r d e)) ∙ z

few_read : (begun : ℕ) (names : List (List ℕ)) (c : Cut) (tokens : List Token) → begun ≤ most_tokens → read begun names c ≡ Ok tokens → begun + length tokens ≤ most_tokens
unfolding read
few_read begun names Done tokens small e = let none : length tokens ≡ 0 = nothing_read [] tokens refl (Ok []) refl e in omega arith
few_read begun names (Stuck before rest why) tokens small e = absurd cc
few_read begun names (Next before spelling shape others) tokens small e =
    few_of (kind_of names spelling shape) begun names before spelling shape others tokens
    (few_read begun names others tokens small)
    (λ rest is room. few_read (begun + 1) (names_after_piece names spelling shape) others rest room is)
    e

-- the tokens of a text are at most so many
pub few_tokens : (text : List ℕ) (tokens : List Token) → lexed text ≡ Ok tokens → length tokens ≤ most_tokens
few_tokens text tokens e = let few : 0 + length tokens ≤ most_tokens = few_read 0 [] (pieces_of text) tokens (omega arith) e in omega arith
