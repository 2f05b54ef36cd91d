-- Symbols number the names of a text.
use Rattle.std.proofs.Common.{◌≡◌, ℕ, zero, suc, ◌+◌, ◌<◌, max, List, [], ◌∷◌, ◌++◌, Bool, true, false, ◌||◌, cond, not, nat_lt, Option, Some, None, Result, Ok, Err, map, length, get_or}
use Rattle.std.proofs.Common.{refl, sym, ap, ◌∙◌, subst, append_assoc, arith}
use Rattle.std.specs.Prelude.{bytes_eq, slice_get}
use Rattle.std.specs.List.{list_any, list_all, position_or_len}
use Rattle.std.specs.Cmp.Lexicographic.{same_text}
use Rattle.std.proofs.lemmas.List.{append-nil, length-map, length-append}
use Rattle.std.proofs.Math.Numerals.{one-add}
use Rattle.std.proofs.lemmas.Option.{slice_get_within}
use Rattle.std.proofs.lemmas.Cmp.{nat_list_eq_equiv}
use Rattle.pc_lexer.specs.Spelling.{keyword_of}
use Rattle.pc_lexer.specs.Cut.{Cut, Done, Next, Stuck, line_behind, pieces_of}
use Rattle.pc_word.specs.SourceLimits.{most_tokens}
use Rattle.pc_lexer.specs.Tokens.{kind_of, names_after_piece, word_kind, names_after_word, symbol_of, names_with, token_before, read, names_after_cut, names_of_text}
use Rattle.pc_lexer.specs.Laws.{name_before, names_in, symbols_in, AreInOrder, SameWhereAlike, NumbersNames, SpellsNames}
use Rattle.pc_lexer.specs.declared.keyword.Keyword.{Keyword}
use Rattle.pc_lexer.specs.declared.piece.Shape.TheVariants as shape
use Rattle.pc_lexer.specs.declared.token.Token.{Token}
use Rattle.pc_lexer.specs.declared.token.TokenKind.TheVariants as kind
use Rattle.pc_lexer.specs.declared.error.LexError.{LexError}
use Rattle.pc_lexer.specs.declared.error.LexError.TheVariants as error
use Rattle.pc_word.proofs.Truth.{and_true, and_made}

-- a name that is used keeps its place when others follow
place_kept : (p : List ℕ → Bool) (xs ys : List (List ℕ)) → list_any p xs ≡ true → position_or_len p (xs ++ ys) ≡ position_or_len p xs
place_kept p [] ys h = cc
place_kept p (x ∷ xs) ys h = by (p x) h (place_kept p xs ys)
  where
    by : (t : Bool) → (t || list_any p xs) ≡ true → (list_any p xs ≡ true → position_or_len p (xs ++ ys) ≡ position_or_len p xs)
        → cond (not t) (1 + position_or_len p (xs ++ ys)) 0 ≡ cond (not t) (1 + position_or_len p xs) 0
    by true h rest = refl
    by false h rest = ap (λ n. 1 + n) (rest h)

any_kept : (p : List ℕ → Bool) (xs ys : List (List ℕ)) → list_any p xs ≡ true → list_any p (xs ++ ys) ≡ true
any_kept p [] ys h = cc
any_kept p (x ∷ xs) ys h = by (p x) h (any_kept p xs ys)
  where
    by : (t : Bool) → (t || list_any p xs) ≡ true → (list_any p xs ≡ true → list_any p (xs ++ ys) ≡ true) → (t || list_any p (xs ++ ys)) ≡ true
    by true h rest = refl
    by false h rest = rest h

-- a new name's place is after the others
place_new : (p : List ℕ → Bool) (xs : List (List ℕ)) → list_any p xs ≡ false → position_or_len p xs ≡ length xs
place_new p [] h = refl
place_new p (x ∷ xs) h = by (p x) h (place_new p xs)
  where
    by : (t : Bool) → (t || list_any p xs) ≡ false → (list_any p xs ≡ false → position_or_len p xs ≡ length xs) → cond (not t) (1 + position_or_len p xs) 0 ≡ suc (length xs)
    by true h rest = cc
    by false h rest = let e = rest h in omega arith

place_pushed : (p : List ℕ → Bool) (xs : List (List ℕ)) (y : List ℕ) → list_any p xs ≡ false → p y ≡ true → position_or_len p (xs ++ y ∷ []) ≡ length xs
place_pushed p [] y h e = ap (λ t. cond (not t) (1 + 0) 0) e
place_pushed p (x ∷ xs) y h e = by (p x) h (λ h. place_pushed p xs y h e)
  where
    by : (t : Bool) → (t || list_any p xs) ≡ false → (list_any p xs ≡ false → position_or_len p (xs ++ y ∷ []) ≡ length xs)
        → cond (not t) (1 + position_or_len p (xs ++ y ∷ [])) 0 ≡ suc (length xs)
    by true h rest = cc
    by false h rest = let k = rest h in omega arith

any_pushed : (p : List ℕ → Bool) (xs : List (List ℕ)) (y : List ℕ) → p y ≡ true → list_any p (xs ++ y ∷ []) ≡ true
any_pushed p [] y e = ap (λ t. t || false) e
any_pushed p (x ∷ xs) y e = by (p x) (any_pushed p xs y e)
  where
    by : (t : Bool) → list_any p (xs ++ y ∷ []) ≡ true → (t || list_any p (xs ++ y ∷ [])) ≡ true
    by true h = refl
    by false h = h

-- a used name's place is within the list, and the name at that place is it
place_within : (p : List ℕ → Bool) (xs : List (List ℕ)) → list_any p xs ≡ true → position_or_len p xs < length xs
place_within p [] h = cc
place_within p (x ∷ xs) h = by (p x) h (place_within p xs)
  where
    by : (t : Bool) → (t || list_any p xs) ≡ true → (list_any p xs ≡ true → position_or_len p xs < length xs) → cond (not t) (1 + position_or_len p xs) 0 < suc (length xs)
    by true h rest = omega arith
    by false h rest = let k = rest h in omega arith

place_passes : (p : List ℕ → Bool) (xs : List (List ℕ)) → list_any p xs ≡ true → p (get_or xs (position_or_len p xs) []) ≡ true
place_passes p [] h = cc
place_passes p (x ∷ xs) h = by (p x) refl h (place_passes p xs)
  where
    by : (t : Bool) → p x ≡ t → (t || list_any p xs) ≡ true → (list_any p xs ≡ true → p (get_or xs (position_or_len p xs) []) ≡ true)
        → p (get_or (x ∷ xs) (cond (not t) (1 + position_or_len p xs) 0) []) ≡ true
    by true e h rest = e
    by false e h rest = rw one-add (rest h)

-- what the symbols of tokens are, read where `names` were used, once all names are these
pub record Numbered (names all : List (List ℕ)) (tokens : List Token) (used : List (List ℕ)) : Type 0 where
  pub later : List (List ℕ)
  pub extends : all ≡ names ++ later
  pub symbols : symbols_in tokens ≡ map (symbol_of all) used
  pub present : list_all (λ name. list_any (bytes_eq name) all) used ≡ true
  pub order : AreInOrder (length names) (symbols_in tokens)

same_name : (name : List ℕ) → bytes_eq name name ≡ true
same_name name = nat_list_eq_equiv.refl name

-- one more name before others
name_numbered : (names all : List (List ℕ)) (name : List ℕ) (tokens : List Token) (line : ℕ) (used : List (List ℕ)) → Numbered (names_with names name) all tokens used
    → Numbered names all (record { kind = kind.Name (symbol_of names name); line = line } ∷ tokens) (name ∷ used)
name_numbered names all name tokens line used n = by (list_any (bytes_eq name) names) refl n
  where
    by : (t : Bool) → list_any (bytes_eq name) names ≡ t → Numbered (cond t names (names ++ name ∷ [])) all tokens used
        → Numbered names all (record { kind = kind.Name (symbol_of names name); line = line } ∷ tokens) (name ∷ used)
    by true e n =
        let within : symbol_of names name < length names = place_within (bytes_eq name) names e in
        let same : symbol_of all name ≡ symbol_of names name = ap (λ l. symbol_of l name) n.extends ∙ place_kept (bytes_eq name) names n.later e in
        let most : length names ≡ max (length names) (symbol_of names name + 1) = omega arith in
        record {
          later = n.later;
          extends = n.extends;
          symbols = λ i. sym same i ∷ n.symbols i;
          present = and_made (list_any (bytes_eq name) all) _ (ap (list_any (bytes_eq name)) n.extends ∙ any_kept (bytes_eq name) names n.later e) n.present;
          order = (omega arith, subst (λ m. AreInOrder m (symbols_in tokens)) most n.order);
        }
    by false e n =
        let new : symbol_of names name ≡ length names = place_new (bytes_eq name) names e in
        let there : list_any (bytes_eq name) (names ++ name ∷ []) ≡ true = any_pushed (bytes_eq name) names name (same_name name) in
        let same : symbol_of all name ≡ symbol_of names name =
        ap (λ l. symbol_of l name) n.extends ∙ place_kept (bytes_eq name) (names ++ name ∷ []) n.later there
        ∙ place_pushed (bytes_eq name) names name e (same_name name) ∙ sym new in
        let most : length (names ++ name ∷ []) ≡ max (length names) (symbol_of names name + 1) = omega (arith, length-append names (name ∷ [])) in
        record {
          later = name ∷ n.later;
          extends = n.extends ∙ append_assoc names (name ∷ []) n.later;
          symbols = λ i. sym same i ∷ n.symbols i;
          present = and_made (list_any (bytes_eq name) all) _ (ap (list_any (bytes_eq name)) n.extends ∙ any_kept (bytes_eq name) (names ++ name ∷ []) n.later there) n.present;
          order = (omega arith, subst (λ m. AreInOrder m (symbols_in tokens)) most n.order);
        }

-- what was read after a token
token_first : (count : ℕ) (token : Token) (r : Result (List Token) LexError) (tokens : List Token) (full : Result (List Token) LexError)
    → ((tokens : List Token) → full ≡ Ok tokens → ⊥) → cond (nat_lt count most_tokens) (token_before token r) full ≡ Ok tokens
    → (rest : List Token) × (r ≡ Ok rest) × (token ∷ rest ≡ tokens)
token_first count token r tokens full never h = by (nat_lt count most_tokens) r h
  where
    by : (t : Bool) (r : Result (List Token) LexError) → cond t (token_before token r) full ≡ Ok tokens → (rest : List Token) × (r ≡ Ok rest) × (token ∷ rest ≡ tokens)
    by true (Ok rest) h = (rest, refl, cc)
    by true (Err fault) h = cc
    by false r h = absurd (never tokens h)

-- the reading of a cut numbers its names
pub numbered : (c : Cut) (count : ℕ) (names : List (List ℕ)) (tokens : List Token) → read count names c ≡ Ok tokens → Numbered names (names_after_cut names c) tokens (names_in c)
unfolding read kind_of names_after_piece names_after_cut
numbered Done count names tokens h =
    let none : [] ≡ tokens = cc in
    subst (λ l. Numbered names names l []) none (record { later = []; extends = sym (append-nil names); symbols = refl; present = refl; order = tt })
numbered (Stuck before rest why) count names tokens h = cc
numbered (Next before spelling shape.Blank others) count names tokens h = numbered others count names tokens h
numbered (Next before spelling shape.Comment others) count names tokens h = numbered others count names tokens h
numbered (Next before spelling shape.Skipped others) count names tokens h = numbered others count names tokens h
numbered (Next before spelling (shape.Number value) others) count names tokens h =
    let f = token_first count _ _ tokens _ (λ tokens h. cc) h in
    subst (λ l. Numbered names (names_after_cut names others) l (names_in others)) f.2 (passed_on (numbered others (count + 1) names f.0 f.1))
  where
    passed_on : {rest : List Token}
        → Numbered names (names_after_cut names others) rest (names_in others)
        → Numbered names (names_after_cut names others) (record { kind = kind.Number value; line = line_behind before } ∷ rest) (names_in others)
    passed_on n = record { later = n.later; extends = n.extends; symbols = n.symbols; present = n.present; order = n.order }
numbered (Next before spelling (shape.Mark mark) others) count names tokens h =
    let f = token_first count _ _ tokens _ (λ tokens h. cc) h in
    subst (λ l. Numbered names (names_after_cut names others) l (names_in others)) f.2 (passed_on (numbered others (count + 1) names f.0 f.1))
  where
    passed_on : {rest : List Token}
        → Numbered names (names_after_cut names others) rest (names_in others)
        → Numbered names (names_after_cut names others) (record { kind = kind.Mark mark; line = line_behind before } ∷ rest) (names_in others)
    passed_on n = record { later = n.later; extends = n.extends; symbols = n.symbols; present = n.present; order = n.order }
numbered (Next before spelling shape.Word others) count names tokens h = by (keyword_of spelling) h (λ names rest h. numbered others (count + 1) names rest h)
  where
    by : (k : Option Keyword)
        → cond (nat_lt count most_tokens)
        (token_before (record { kind = word_kind names spelling k; line = line_behind before }) (read (count + 1) (names_after_word names spelling k) others))
        (Err error.TooManyTokens) ≡ Ok tokens
        → ((names : List (List ℕ)) (rest : List Token) → read (count + 1) names others ≡ Ok rest → Numbered names (names_after_cut names others) rest (names_in others))
        → Numbered names (names_after_cut (names_after_word names spelling k) others) tokens (name_before spelling k (names_in others))
    by (Some key) h more =
        let f = token_first count _ _ tokens _ (λ tokens h. cc) h in
        let n = more names f.0 f.1 in
        subst (λ l. Numbered names (names_after_cut names others) l (names_in others)) f.2 (record { later = n.later; extends = n.extends; symbols = n.symbols; present = n.present; order = n.order })
    by None h more =
        let f = token_first count _ _ tokens _ (λ tokens h. cc) h in
        let after = names_after_cut (names_with names spelling) others in
        let numbered_after = more (names_with names spelling) f.0 f.1 in
        subst (λ l. Numbered names after l (spelling ∷ names_in others)) f.2 (name_numbered names after spelling f.0 (line_behind before) (names_in others) numbered_after)

-- symbols of names that are used are the same where the names are
slice_get-map : (f : List ℕ → ℕ) (names : List (List ℕ)) (i : ℕ) → i < length names → slice_get (map f names) i ≡ Some (f (get_or names i []))
slice_get-map f [] i h = absurd (omega arith)
slice_get-map f (x ∷ names) zero h = refl
slice_get-map f (x ∷ names) (suc i) h = slice_get-map f names i (omega arith)

slice_get-at : (names : List (List ℕ)) (i : ℕ) → i < length names → slice_get names i ≡ Some (get_or names i [])
slice_get-at [] i h = absurd (omega arith)
slice_get-at (x ∷ names) zero h = refl
slice_get-at (x ∷ names) (suc i) h = slice_get-at names i (omega arith)

all_at : (p : List ℕ → Bool) (names : List (List ℕ)) (i : ℕ) → list_all p names ≡ true → i < length names → p (get_or names i []) ≡ true
all_at p [] i h lt = absurd (omega arith)
all_at p (x ∷ names) zero h lt = (and_true (p x) (list_all p names) h).0
all_at p (x ∷ names) (suc i) h lt = all_at p names i (and_true (p x) (list_all p names) h).1 (omega arith)

-- the name at its own place
named : (all : List (List ℕ)) (name : List ℕ) → list_any (bytes_eq name) all ≡ true → get_or all (symbol_of all name) [] ≡ name
named all name h = sym (same_text name (get_or all (symbol_of all name) []) (sym (place_passes (bytes_eq name) all h)))

same_where_alike : (all used : List (List ℕ)) → list_all (λ name. list_any (bytes_eq name) all) used ≡ true → SameWhereAlike (map (symbol_of all) used) used
same_where_alike all used present i j li lj =
    let a = get_or used i [] in
    let b = get_or used j [] in
    let sa = slice_get-map (symbol_of all) used i li in
    let sb = slice_get-map (symbol_of all) used j lj in
    let na = slice_get-at used i li in
    let nb = slice_get-at used j lj in (
      (λ h. let e : symbol_of all a ≡ symbol_of all b = cc in
          na
          ∙ ap Some (sym (named all a (all_at (λ name. list_any (bytes_eq name) all) used i present li)) ∙ ap (λ n. get_or all n []) e
          ∙ named all b (all_at (λ name. list_any (bytes_eq name) all) used j present lj))
          ∙ sym nb),
      (λ h. let e : a ≡ b = cc in sa ∙ ap (λ name. Some (symbol_of all name)) e ∙ sym sb),
    )

pub numbers_names : NumbersNames
numbers_names text tokens h =
    let n = numbered (pieces_of text) 0 [] tokens h in (
      ap length n.symbols ∙ length-map (names_in (pieces_of text)) (symbol_of (names_of_text text)),
      n.order,
      subst (λ symbols. SameWhereAlike symbols (names_in (pieces_of text))) (sym n.symbols) (same_where_alike (names_of_text text) (names_in (pieces_of text)) n.present),
    )

-- a name that is used stands at the place of its symbol
stands : (all used : List (List ℕ)) (place symbol : ℕ) → list_all (λ name. list_any (bytes_eq name) all) used ≡ true
    → slice_get (map (symbol_of all) used) place ≡ Some symbol → slice_get used place ≡ slice_get all symbol
stands all used place symbol present there =
    let size = length-map used (symbol_of all) in
    let inside = slice_get_within (map (symbol_of all) used) place symbol there in
    let below : place < length used = omega (arith, size, inside) in
    let name = get_or used place [] in
    let is : symbol_of all name ≡ symbol = cc (slice_get-map (symbol_of all) used place below, there) in
    let known = all_at (λ name. list_any (bytes_eq name) all) used place present below in
    slice_get-at used place below ∙ ap Some (sym (named all name known))
    ∙ sym (slice_get-at all (symbol_of all name) (place_within (bytes_eq name) all known)) ∙ ap (slice_get all) is

pub spells_names : SpellsNames
spells_names text tokens h place symbol there =
    let n = numbered (pieces_of text) 0 [] tokens h in
    stands (names_of_text text) (names_in (pieces_of text)) place symbol n.present (ap (λ symbols. slice_get symbols place) (sym n.symbols) ∙ there)
