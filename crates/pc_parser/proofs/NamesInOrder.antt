-- The symbols that the lexer gives are below the number of tokens.
use Rattle.std.proofs.Common.{◌≡◌, refl, subst, ℕ, zero, suc, ◌+◌, ◌<◌, ◌≤◌, List, [], ◌∷◌, length, arith}
use Rattle.std.specs.Prelude.{Some, max}
use Rattle.pc_lexer.specs.Laws.{symbol_before, symbols_in, AreInOrder}
use Rattle.pc_lexer.specs.declared.token.Token.{Token}
use Rattle.pc_lexer.specs.declared.token.TokenKind.{TokenKind}
use Rattle.pc_lexer.specs.declared.token.TokenKind.TheVariants as kinds
use Rattle.pc_parser.specs.Places.{kind_at}
use Rattle.pc_parser.specs.Units.{HasNamesBelow}
use Rattle.pc_parser.proofs.Onward.{inside}

in-order : (base next : ℕ) (tokens : List Token) → AreInOrder next (symbols_in tokens) → next + length tokens ≤ base → HasNamesBelow base tokens
unfolding kind_at
in-order base next [] ordered enough place symbol is = let low = inside [] place (kinds.Name symbol) is in absurd (omega arith)
in-order base next (token ∷ tokens) ordered enough place symbol is =
    by token.kind refl (subst (λ k. AreInOrder next (symbol_before k (symbols_in tokens))) refl ordered) place is (λ next' ordered' enough'. in-order base next' tokens ordered' enough')
  where
    by : (kind : TokenKind) → token.kind ≡ kind → AreInOrder next (symbol_before kind (symbols_in tokens)) → (place : ℕ) → kind_at (token ∷ tokens) place ≡ Some (kinds.Name symbol) →
        ((next' : ℕ) → AreInOrder next' (symbols_in tokens) → next' + length tokens ≤ base → HasNamesBelow base tokens) → symbol < base
    by (kinds.Name found) found_is ordered' zero is' below = let same : found ≡ symbol = cc in let low = ordered'.0 in omega arith
    by (kinds.Name found) found_is ordered' (suc place) is' below = let low = ordered'.0 in below (max next (found + 1)) ordered'.1 (omega arith) place symbol is'
    by (kinds.Number value) found_is ordered' zero is' below = cc
    by (kinds.Number value) found_is ordered' (suc place) is' below = below next ordered' (omega arith) place symbol is'
    by (kinds.Key key) found_is ordered' zero is' below = cc
    by (kinds.Key key) found_is ordered' (suc place) is' below = below next ordered' (omega arith) place symbol is'
    by (kinds.Mark mark) found_is ordered' zero is' below = cc
    by (kinds.Mark mark) found_is ordered' (suc place) is' below = below next ordered' (omega arith) place symbol is'

pub names-below : (base : ℕ) (tokens : List Token) → AreInOrder 0 (symbols_in tokens) → length tokens ≤ base → HasNamesBelow base tokens
names-below base tokens ordered enough = in-order base 0 tokens ordered (omega arith)
