-- What the loop over a text keeps: the tokens so far and the reading of what is left are the reading of the whole.
use Rattle.std.proofs.Common.{◌≡◌, ℕ, zero, suc, ◌+◌, ◌-◌, ◌<◌, ◌≤◌, List, [], ◌∷◌, ◌++◌, Bool, true, false, ◌&&◌, ◌||◌, cond, nat_lt, Option, Some, None, Result, Ok, Err, take, drop, length, refl}
use Rattle.std.proofs.Common.{sym, ap, ◌∙◌, subst, append_assoc, arith}
use Rattle.std.proofs.Math.Seq.{take-add}
use Rattle.std.proofs.lemmas.List.{append-nil, drop-drop, length-drop, length-take, drop_all, length_push}
use Rattle.std.proofs.lemmas.List.Sums.{count_by-le-length}
use Rattle.std.proofs.lemmas.Bool.Decides.{nat_tests}
use Rattle.std.specs.Prelude.{IfSome, is_some}
use Rattle.pc_word.specs.Line.{is_line_feed}
use Rattle.pc_word.specs.Exact.{IsExact}
use Rattle.pc_word.specs.SourceLimits.{most_tokens}
use Rattle.pc_word.proofs.Lists.{count_both}
use Rattle.pc_lexer.specs.Bytes.{is_blank, line_feeds}
use Rattle.pc_lexer.specs.Piece.{piece_at}
use Rattle.pc_lexer.specs.Cut.{Cut, Next, Stuck, cut, fresh_after, line_behind}
use Rattle.pc_lexer.specs.Tokens.{kind_of, names_after_piece, fault_at, token_before, read, lexed, lex_cause, names_after_cut, names_of_text}
use Rattle.pc_lexer.specs.models.Steps.{with_token, RefusesToken}
use Rattle.pc_lexer.specs.declared.piece.Shape.{Shape}
use Rattle.pc_lexer.specs.declared.piece.Shape.TheVariants as shape
use Rattle.pc_lexer.specs.declared.piece.Piece.{Piece}
use Rattle.pc_lexer.specs.declared.piece.Trouble.{Trouble}
use Rattle.pc_lexer.specs.declared.token.Token.{Token}
use Rattle.pc_lexer.specs.declared.token.TokenKind.{TokenKind}
use Rattle.pc_lexer.specs.declared.error.LexError.{LexError}
use Rattle.pc_lexer.specs.declared.error.LexError.TheVariants as error
use Rattle.pc_lexer.proofs.Begun.{piece_fits}

-- after the bytes of a piece the next one begins
pub cut-inside : (bytes : List ℕ) (n : ℕ) (before : List ℕ) → cut bytes n before ≡ cut (drop n bytes) 0 (before ++ take n bytes)
unfolding cut
cut-inside [] zero before = refl
cut-inside [] (suc n) before = refl
cut-inside (b ∷ bytes) zero before = ap (cut (b ∷ bytes) 0) (sym (append-nil before))
cut-inside (b ∷ bytes) (suc n) before = cut-inside bytes n (before ++ b ∷ []) ∙ ap (cut (drop n bytes) 0) (append_assoc before (b ∷ []) (take n bytes))

pub cut-piece : (bytes before : List ℕ) (piece : Piece) → 0 < length bytes → piece_at (fresh_after true before) bytes ≡ Ok piece
    → cut bytes 0 before ≡ Next before (take piece.length bytes) piece.shape (cut (drop piece.length bytes) 0 (before ++ take piece.length bytes))
unfolding cut
cut-piece [] before piece some h = absurd (omega arith)
cut-piece (b ∷ bytes) before piece some h =
    let f = piece_fits (fresh_after true before) (b ∷ bytes) piece h in
    let e : suc (piece.length - 1) ≡ piece.length = omega (arith, f.some) in
    ap (λ r. elim r as (λ _. Cut) [
      | Ok p ↦ Next before (take p.length (b ∷ bytes)) p.shape (cut bytes (p.length - 1) (before ++ b ∷ []))
      | Err why ↦ Stuck before (b ∷ bytes) why
    ]) h
    ∙ ap (Next before (take piece.length (b ∷ bytes)) piece.shape)
    (cut-inside bytes (piece.length - 1) (before ++ b ∷ [])
    ∙ ap (cut (drop (piece.length - 1) bytes) 0) (append_assoc before (b ∷ []) (take (piece.length - 1) bytes))
    ∙ ap (λ n. cut (drop n (b ∷ bytes)) 0 (before ++ take n (b ∷ bytes))) e)

pub cut-stuck : (bytes before : List ℕ) (why : Trouble) → 0 < length bytes → piece_at (fresh_after true before) bytes ≡ Err why
    → cut bytes 0 before ≡ Stuck before bytes why
unfolding cut
cut-stuck [] before why some h = absurd (omega arith)
cut-stuck (b ∷ bytes) before why some h =
    ap (λ r. elim r as (λ _. Cut) [
      | Ok p ↦ Next before (take p.length (b ∷ bytes)) p.shape (cut bytes (p.length - 1) (before ++ b ∷ []))
      | Err why ↦ Stuck before (b ∷ bytes) why
    ]) h

-- what is read of a piece, by the token that it is
chosen : ℕ → List (List ℕ) → List ℕ → List ℕ → Shape → Cut → Option TokenKind → Result (List Token) LexError
chosen count names before spelling shape others None = read count names others
chosen count names before spelling shape others (Some kind) =
    cond (nat_lt count most_tokens)
    (token_before (record { kind = kind; line = line_behind before }) (read (count + 1) (names_after_piece names spelling shape) others))
    (Err error.TooManyTokens)

read-chosen : (count : ℕ) (names : List (List ℕ)) (before spelling : List ℕ) (shape : Shape) (others : Cut)
    → read count names (Next before spelling shape others) ≡ chosen count names before spelling shape others (kind_of names spelling shape)
unfolding read chosen
read-chosen count names before spelling shape others = by (kind_of names spelling shape)
  where
    by : (k : Option TokenKind) → elim k as (λ _. Result (List Token) LexError) [
      | None ↦ read count names others
      | Some kind ↦ cond (nat_lt count most_tokens)
          (token_before (record { kind = kind; line = line_behind before }) (read (count + 1) (names_after_piece names spelling shape) others))
          (Err error.TooManyTokens)
    ]
        ≡ chosen count names before spelling shape others k
    by None = refl
    by (Some kind) = refl

has_room : (n : ℕ) → n < most_tokens → nat_lt n most_tokens ≡ true
has_room n h = grind (arith, nat_tests)

has_none : (n : ℕ) → most_tokens ≤ n → nat_lt n most_tokens ≡ false
has_none n h = grind (arith, nat_tests)

-- tokens before a reading
pub with_front : List Token → Result (List Token) LexError → Result (List Token) LexError
with_front front (Ok tokens) = Ok (front ++ tokens)
with_front front (Err fault) = Err fault

with_front-token : (front : List Token) (token : Token) (r : Result (List Token) LexError) → with_front front (token_before token r) ≡ with_front (front ++ token ∷ []) r
unfolding with_front
with_front-token front token (Ok tokens) = ap Ok (sym (append_assoc front (token ∷ []) tokens))
with_front-token front token (Err fault) = refl

-- a piece that is no token uses no name
names_stay : (names : List (List ℕ)) (spelling : List ℕ) (shape : Shape) → kind_of names spelling shape ≡ None → names_after_piece names spelling shape ≡ names
unfolding kind_of names_after_piece
names_stay names spelling shape.Word h = cc
names_stay names spelling _ h = refl

-- a line after two texts
fresh_after-append : (fresh : Bool) (xs ys : List ℕ) → fresh_after fresh (xs ++ ys) ≡ fresh_after (fresh_after fresh xs) ys
unfolding fresh_after
fresh_after-append fresh [] ys = refl
fresh_after-append fresh (x ∷ xs) ys = fresh_after-append (is_line_feed x || fresh && is_blank x) xs ys

-- the cut of what is left of a text from a place on
abbrev cut_from : List ℕ → ℕ → Cut
cut_from text offset = cut (drop offset text) 0 (take offset text)

-- the spelling of a piece at a place
abbrev pub spelled_at : List ℕ → ℕ → Piece → List ℕ
spelled_at text offset piece = take piece.length (drop offset text)

-- where the loop stands
pub record Reads (text : List ℕ) (found : List Token) (names : List (List ℕ)) (offset line : ℕ) (fresh : Bool) : Type 0 where
  pub within : offset ≤ length text
  pub line_is : line ≡ line_behind (take offset text)
  pub fresh_is : fresh ≡ fresh_after true (take offset text)
  pub reads : with_front found (read (length found) names (cut_from text offset)) ≡ lexed text
  pub uses : names_after_cut names (cut_from text offset) ≡ names_of_text text

pub reads_first : (text : List ℕ) (found : List Token) (names : List (List ℕ)) → found ≡ [] → names ≡ [] → Reads text found names 0 1 true
unfolding with_front fresh_after
reads_first text found names none unused = record {
  within = omega arith;
  line_is = refl;
  fresh_is = refl;
  reads = (λ i. with_front (none i) (read (length (none i)) (unused i) (cut text 0 []))) ∙ all (lexed text);
  uses = ap (λ ns. names_after_cut ns (cut text 0 [])) unused;
}
  where
    all : (r : Result (List Token) LexError) → with_front [] r ≡ r
    all (Ok tokens) = refl
    all (Err fault) = refl

pub reads_last : {text : List ℕ} {found : List Token} {names : List (List ℕ)} {offset line : ℕ} {fresh : Bool}
    → Reads text found names offset line fresh → length text ≤ offset → lexed text ≡ Ok found
unfolding with_front read cut
reads_last {text} {found} {names} {offset} r past =
    sym r.reads
    ∙ ap (λ rest. with_front found (read (length found) names (cut rest 0 (take offset text)))) (drop_all offset text past)
    ∙ ap Ok (append-nil found)

pub uses_last : {text : List ℕ} {found : List Token} {names : List (List ℕ)} {offset line : ℕ} {fresh : Bool}
    → Reads text found names offset line fresh → length text ≤ offset → names ≡ names_of_text text
unfolding names_after_cut cut
uses_last {text} {found} {names} {offset} r past =
    sym (ap (λ rest. names_after_cut names (cut rest 0 (take offset text))) (drop_all offset text past)) ∙ r.uses

-- a call's answer to a text that reads so
abbrev pub Exact : Result (List Token) LexError → Result (List Token) LexError → Type 0
Exact result reading = IsExact (λ tokens. tokens) lex_cause result reading

-- a reading is its own answer
pub exact_fault : (fault : LexError) (reading : Result (List Token) LexError) → reading ≡ Err fault → Exact (Err fault) reading
exact_fault error.Memory reading h = tt
exact_fault (error.BadByte _) reading h = h
exact_fault (error.BadLiteral _) reading h = h
exact_fault (error.OpenComment _) reading h = h
exact_fault error.TooManyTokens reading h = h

module _ (text : List ℕ) (found : List Token) (names : List (List ℕ)) (offset line : ℕ) (fresh : Bool) (r : Reads text found names offset line fresh) (more : offset < length text) where
  left : 0 < length (drop offset text)
  left = omega (arith, length-drop offset text)

  -- the fault where no piece begins
  pub reads_stuck : (why : Trouble) → piece_at fresh (drop offset text) ≡ Err why → lexed text ≡ Err (fault_at (length found) why (take offset text))
  unfolding with_front read
  reads_stuck why h =
      sym r.reads
      ∙ ap (λ c. with_front found (read (length found) names c))
      (cut-stuck (drop offset text) (take offset text) why left (sym (ap (λ f. piece_at f (drop offset text)) r.fresh_is) ∙ h))

  module _ (piece : Piece) (h : piece_at fresh (drop offset text) ≡ Ok piece) where
    -- the cut is the piece, before the cut after it
    cut_first : cut_from text offset ≡ Next (take offset text) (spelled_at text offset piece) piece.shape (cut_from text (offset + piece.length))
    cut_first =
        cut-piece (drop offset text) (take offset text) piece left (sym (ap (λ f. piece_at f (drop offset text)) r.fresh_is) ∙ h)
        ∙ (λ i. Next (take offset text) (spelled_at text offset piece) piece.shape
        (cut (drop-drop piece.length offset text i) 0 (sym (take-add offset piece.length text) i)))

    -- what is read of it, by the token that it is
    chosen_of : Option TokenKind → Result (List Token) LexError
    chosen_of kind =
        with_front found
        (chosen (length found) names (take offset text) (spelled_at text offset piece) piece.shape (cut_from text (offset + piece.length)) kind)

    -- the piece is read first
    step : (kind : Option TokenKind) → kind_of names (spelled_at text offset piece) piece.shape ≡ kind → chosen_of kind ≡ lexed text
    unfolding chosen_of
    step kind e =
        sym (ap (λ k. with_front found (chosen (length found) names (take offset text) (spelled_at text offset piece) piece.shape (cut_from text (offset + piece.length)) k)) e)
        ∙ ap (with_front found)
        (sym (read-chosen (length found) names (take offset text) (spelled_at text offset piece) piece.shape (cut_from text (offset + piece.length))))
        ∙ ap (λ c. with_front found (read (length found) names c)) (sym cut_first)
        ∙ r.reads

    -- the names after it
    after : List (List ℕ)
    after = names_after_piece names (spelled_at text offset piece) piece.shape

    -- the reading after the piece
    reads_next : (kind : Option TokenKind) → kind_of names (spelled_at text offset piece) piece.shape ≡ kind → IfSome kind (λ _. length found < most_tokens)
        → with_front (with_token found kind line) (read (length (with_token found kind line)) after (cut_from text (offset + piece.length))) ≡ lexed text
    unfolding chosen_of chosen after
    reads_next None e room =
        ap (λ ns. with_front found (read (length found) ns (cut_from text (offset + piece.length))))
        (names_stay names (spelled_at text offset piece) piece.shape e)
        ∙ step None e
    reads_next (Some kind) e room =
        ap (λ n. with_front (found ++ token ∷ []) (read n after (cut_from text (offset + piece.length)))) (length_push found token)
        ∙ sym (with_front-token found token others)
        ∙ ap (λ l. with_front found (token_before (record { kind = kind; line = l }) others)) r.line_is
        ∙ sym (ap (λ t. with_front found (cond t (token_before (record { kind = kind; line = line_behind (take offset text) }) others) (Err error.TooManyTokens)))
        (has_room (length found) room))
        ∙ step (Some kind) e
      where
        token : Token
        token = record { kind = kind; line = line }

        others : Result (List Token) LexError
        others = read (length found + 1) after (cut_from text (offset + piece.length))

    -- the names from the piece on
    uses_next : names_after_cut after (cut_from text (offset + piece.length)) ≡ names_of_text text
    unfolding names_after_cut after
    uses_next = sym (ap (names_after_cut names) cut_first) ∙ r.uses

    -- the loop's next state
    pub reads_kept : (kind : Option TokenKind) → kind_of names (spelled_at text offset piece) piece.shape ≡ kind → IfSome kind (λ _. length found < most_tokens)
        → Reads text (with_token found kind line) (names_after_piece names (spelled_at text offset piece) piece.shape) (offset + piece.length)
        (line + line_feeds (spelled_at text offset piece)) (fresh_after fresh (spelled_at text offset piece))
    unfolding after
    reads_kept kind e room =
        let f = piece_fits fresh (drop offset text) piece h in
        let parts = take-add offset piece.length text in
        record {
          within = omega (arith, f.within, length-drop offset text);
          line_is = omega (arith, r.line_is, ap line_feeds parts, count_both is_line_feed (take offset text) (spelled_at text offset piece));
          fresh_is =
              ap (λ b. fresh_after b (spelled_at text offset piece)) r.fresh_is
              ∙ sym (fresh_after-append true (take offset text) (spelled_at text offset piece))
              ∙ ap (fresh_after true) (sym parts);
          reads = reads_next kind e room;
          uses = uses_next;
        }

    -- one token too many
    reads_full : (kind : TokenKind) → kind_of names (spelled_at text offset piece) piece.shape ≡ Some kind → most_tokens ≤ length found
        → lexed text ≡ Err error.TooManyTokens
    unfolding chosen_of chosen with_front after
    reads_full kind e full =
        sym (step (Some kind) e)
        ∙ ap (λ t. with_front found (cond t
        (token_before (record { kind = kind; line = line_behind (take offset text) }) (read (length found + 1) after (cut_from text (offset + piece.length))))
        (Err error.TooManyTokens))) (has_none (length found) full)

    -- a piece that is not kept is the text's fault, unless memory ran out
    pub reads_refused : (kind : Option TokenKind) (fault : LexError)
        → kind_of names (spelled_at text offset piece) piece.shape ≡ kind → RefusesToken found kind fault → Exact (Err fault) (lexed text)
    reads_refused kind error.Memory e refused = tt
    reads_refused (Some kind) error.TooManyTokens e full = reads_full kind e full
    reads_refused None error.TooManyTokens e refused = absurd refused
    reads_refused kind (error.BadByte _) e refused = absurd refused
    reads_refused kind (error.BadLiteral _) e refused = absurd refused
    reads_refused kind (error.OpenComment _) e refused = absurd refused

-- the line of a place is within the text's length
pub line_within : {text : List ℕ} {found : List Token} {names : List (List ℕ)} {offset line : ℕ} {fresh : Bool}
    → Reads text found names offset line fresh → line ≤ 1 + length text
line_within {text} {found} {names} {offset} r = omega (arith, r.line_is, count_by-le-length is_line_feed (take offset text), length-take offset text)

-- how many tokens there are once a piece is kept
pub length-with_token : (found : List Token) (kind : Option TokenKind) (line : ℕ) → length (with_token found kind line) ≡ length found + cond (is_some kind) 1 0
length-with_token found None line = omega arith
length-with_token found (Some kind) line = length_push found (record { kind = kind; line = line })

pub few_kept : (found : List Token) (kind : Option TokenKind) (line : ℕ) → length found ≤ most_tokens → IfSome kind (λ _. length found < most_tokens)
    → length (with_token found kind line) ≤ most_tokens
few_kept found None line few room = few
few_kept found (Some kind) line few room = omega (arith, length_push found (record { kind = kind; line = line }))

-- the same state by other names
pub reads_moved : {text : List ℕ} {found found' : List Token} {names names' : List (List ℕ)} {offset line line' : ℕ} {fresh fresh' : Bool}
    → found' ≡ found → names' ≡ names → line' ≡ line → fresh' ≡ fresh → Reads text found names offset line fresh → Reads text found' names' offset line' fresh'
reads_moved {text} {found} {found'} {names} {names'} {offset} {line} {line'} {fresh} {fresh'} e n l f r =
    subst (λ x. Reads text x names' offset line' fresh') (sym e)
    (subst (λ x. Reads text found x offset line' fresh') (sym n)
    (subst (λ x. Reads text found names offset x fresh') (sym l)
    (subst (λ x. Reads text found names offset line x) (sym f) r)))
