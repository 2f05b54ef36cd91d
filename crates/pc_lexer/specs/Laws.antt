-- What the cut of a text is, said of spellings and symbols alone.
use Rattle.std.specs.Prelude.{◌≡◌, ◌↔◌, ℕ, ◌+◌, ◌<◌, ◌≤◌, max, Bool, true, false, ◌&&◌, ◌||◌, IsTrue, List, [], ◌∷◌, ◌++◌, Option, Some, None, Ok, pos, take, length, slice_get, bytes_eq}
use Rattle.std.specs.Prelude.{nat_eq, codes}
use Rattle.std.specs.List.{list_any, list_all, starts_with}
use Rattle.pc_lexer.specs.Bytes.{is_blank, is_letter, is_digit, is_word_byte}
use Rattle.pc_lexer.specs.Spelling.{mark_spelling, marks, keyword_of}
use Rattle.pc_lexer.specs.Number.{is_exponent, is_sign, number_value}
use Rattle.pc_lexer.specs.Cut.{Cut, Done, Next, Stuck, pieces_of}
use Rattle.pc_lexer.specs.Tokens.{lexed, names_of_text}
use Rattle.pc_lexer.specs.declared.keyword.Keyword.{Keyword}
use Rattle.pc_lexer.specs.declared.piece.Shape.{Shape}
use Rattle.pc_lexer.specs.declared.piece.Shape.TheVariants as shape
use Rattle.pc_lexer.specs.declared.piece.Trouble.{Trouble}
use Rattle.pc_lexer.specs.declared.piece.Trouble.TheVariants as trouble
use Rattle.pc_lexer.specs.declared.token.Token.{Token}
use Rattle.pc_lexer.specs.declared.token.TokenKind.{TokenKind}
use Rattle.pc_lexer.specs.declared.token.TokenKind.TheVariants as kind

-- a letter or `_`, and then letters, digits and `_`
abbrev pub is_word_spelling : List ℕ → Bool
is_word_spelling [] = false
is_word_spelling (b ∷ bytes) = is_letter b && list_all is_word_byte bytes

-- letters, digits, `_`, and signs directly after `e`, `E`, `p` and `P`
abbrev pub is_number_rest : Bool → List ℕ → Bool
is_number_rest exponent [] = true
is_number_rest exponent (b ∷ bytes) = (is_word_byte b || exponent && is_sign b) && is_number_rest (is_exponent b) bytes

-- a digit, and then those
abbrev pub is_number : List ℕ → Bool
is_number [] = false
is_number (b ∷ bytes) = is_digit b && is_number_rest false bytes

-- one of the marks
abbrev pub is_mark : List ℕ → Bool
is_mark bytes = list_any (λ mark. bytes_eq (mark_spelling mark) bytes) marks

-- whether bytes have the form of a token
unfoldable pub is_token : List ℕ → Bool
is_token bytes = is_word_spelling bytes || is_number bytes || is_mark bytes

-- no front of the text with more than n bytes has the form of a token
abbrev pub NoTokenBeyond : ℕ → List ℕ → Type 0
NoTokenBeyond n text = (k : ℕ) → n < k → k ≤ length text → is_token (take k text) ≡ false

-- how a piece is spelled: a blank, a comment or a skipped line by its first bytes, a token by its form and value
abbrev pub IsSpelled : Shape → List ℕ → Type 0
IsSpelled shape.Blank spelling = (b : ℕ) × (spelling ≡ b ∷ []) × IsTrue (is_blank b)
IsSpelled shape.Comment spelling = IsTrue (starts_with nat_eq spelling (codes "//") || starts_with nat_eq spelling (codes "/*"))
IsSpelled shape.Skipped spelling = IsTrue (starts_with nat_eq spelling (codes "#"))
IsSpelled shape.Word spelling = IsTrue (is_word_spelling spelling)
IsSpelled (shape.Number value) spelling = IsTrue (is_number spelling) × (n : ℕ) × (number_value spelling ≡ Some n) × (value ≡ pos n)
IsSpelled (shape.Mark mark) spelling = spelling ≡ mark_spelling mark

-- why no piece begins a text: no front is a token, the longest number has no value, or a comment begins
abbrev pub IsStuck : Trouble → List ℕ → Type 0
IsStuck trouble.NoPiece text = NoTokenBeyond 0 text
IsStuck trouble.Misspelt text = (n : ℕ) × IsTrue (is_number (take n text)) × (number_value (take n text) ≡ None) × NoTokenBeyond n text
IsStuck trouble.OpenComment text = IsTrue (starts_with nat_eq text (codes "/*"))

-- the spellings of the pieces and what is left after them, in a row
abbrev pub cut_text : Cut → List ℕ
cut_text Done = []
cut_text (Next before spelling shape others) = spelling ++ cut_text others
cut_text (Stuck before rest why) = rest

-- each piece is spelled as its shape says, and where a piece begins no token could be longer than it
abbrev pub AreLongest : Cut → Type 0
AreLongest Done = Unit {0}
AreLongest (Next before spelling shape others) =
    (0 < length spelling) × IsSpelled shape spelling × NoTokenBeyond (length spelling) (spelling ++ cut_text others) × AreLongest others
AreLongest (Stuck before rest why) = IsStuck why rest

-- the pieces of a text and what is left after them are the text, and no token could be longer
abbrev pub CutsIntoLongest : Type 0
CutsIntoLongest = (text : List ℕ) → (cut_text (pieces_of text) ≡ text) × AreLongest (pieces_of text)

-- a word that spells no keyword, before others
abbrev pub name_before : List ℕ → Option Keyword → List (List ℕ) → List (List ℕ)
name_before word (Some key) names = names
name_before word None names = word ∷ names

-- the names of a cut, in order, each time that they are used
abbrev pub names_in : Cut → List (List ℕ)
names_in Done = []
names_in (Next before spelling shape.Word others) = name_before spelling (keyword_of spelling) (names_in others)
names_in (Next before spelling _ others) = names_in others
names_in (Stuck before rest why) = []

-- a name's symbol before others
abbrev pub symbol_before : TokenKind → List ℕ → List ℕ
symbol_before (kind.Name symbol) symbols = symbol ∷ symbols
symbol_before _ symbols = symbols

-- the symbols of tokens, in order
abbrev pub symbols_in : List Token → List ℕ
symbols_in [] = []
symbols_in (token ∷ tokens) = symbol_before token.kind (symbols_in tokens)

-- each symbol came before, or is the next one
abbrev pub AreInOrder : ℕ → List ℕ → Type 0
AreInOrder next [] = Unit {0}
AreInOrder next (symbol ∷ symbols) = (symbol ≤ next) × AreInOrder (max next (symbol + 1)) symbols

-- two names have one symbol exactly where they are spelled alike
abbrev pub SameWhereAlike : List ℕ → List (List ℕ) → Type 0
SameWhereAlike symbols names =
    (i j : ℕ) → i < length names → j < length names → (slice_get symbols i ≡ slice_get symbols j) ↔ (slice_get names i ≡ slice_get names j)

-- symbols number the names of a text from 0, in the order of first use
abbrev pub NumbersNames : Type 0
NumbersNames = (text : List ℕ) (tokens : List Token) → lexed text ≡ Ok tokens →
    (length (symbols_in tokens) ≡ length (names_in (pieces_of text)))
    × AreInOrder 0 (symbols_in tokens)
    × SameWhereAlike (symbols_in tokens) (names_in (pieces_of text))

-- wherever tokens use a symbol, the text spells there the name at the symbol's place
abbrev pub SpellsNames : Type 0
SpellsNames =
    (text : List ℕ) (tokens : List Token) → lexed text ≡ Ok tokens → (place symbol : ℕ) → slice_get (symbols_in tokens) place ≡ Some symbol
    → slice_get (names_in (pieces_of text)) place ≡ slice_get (names_of_text text) symbol
