-- The names in a set of slices.
use Rattle.std.proofs.Common.{◌≡◌, ℕ, ◌+◌, List, [], ◌∷◌, ◌++◌, Bool, true, false, ◌||◌, cond, not, refl, ap, ◌∙◌}
use Rattle.std.specs.Prelude.{bytes_eq}
use Rattle.std.specs.Borrow.{Bor}
use Rattle.std.specs.List.{list_any, position_or_len}
use Rattle.std.proofs.lemmas.List.{map-append}
use Rattle.pc_lexer.specs.Tokens.{symbol_of, names_with}
use Rattle.pc_lexer.specs.models.Steps.{spellings}

-- a slice's place in the set is its spelling's symbol
pub symbol_in : (keys : List (Bor (List ℕ))) (word : List ℕ) → position_or_len (λ key. bytes_eq word key.now) keys ≡ symbol_of (spellings keys) word
symbol_in [] word = refl
symbol_in (key ∷ keys) word = ap (λ n. cond (not (bytes_eq word key.now)) (1 + n) 0) (symbol_in keys word)

any_in : (keys : List (Bor (List ℕ))) (word : List ℕ) → list_any (λ key. bytes_eq word key.now) keys ≡ list_any (bytes_eq word) (spellings keys)
any_in [] word = refl
any_in (key ∷ keys) word = ap (λ t. bytes_eq word key.now || t) (any_in keys word)

-- the spellings once a slice is inserted
pub names_in : (keys : List (Bor (List ℕ))) (word : Bor (List ℕ))
    → spellings (cond (list_any (λ key. bytes_eq word.now key.now) keys) keys (keys ++ word ∷ [])) ≡ names_with (spellings keys) word.now
names_in keys word =
    by (list_any (λ key. bytes_eq word.now key.now) keys)
    ∙ ap (λ t. cond t (spellings keys) (spellings keys ++ word.now ∷ [])) (any_in keys word.now)
  where
    by : (t : Bool) → spellings (cond t keys (keys ++ word ∷ [])) ≡ cond t (spellings keys) (spellings keys ++ word.now ∷ [])
    by true = refl
    by false = map-append (λ name. name.now) keys (word ∷ [])
