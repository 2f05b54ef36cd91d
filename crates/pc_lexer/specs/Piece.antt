-- The piece that begins at a place of the text: a blank, a comment, a skipped line or a token, the longest one.
use Rattle.std.specs.Prelude.{ℕ, suc, ◌+◌, Bool, false, not, ◌==◌, ◌&&◌, nat_eq, List, [], ◌∷◌, Option, Some, None, Result, Ok, Err, pos, if◌then◌else◌, codes, take, drop, length, slice_index}
use Rattle.std.specs.List.{starts_with, prefix_len}
use Rattle.std.specs.Option.{option_map}
use Rattle.pc_word.specs.Line.{is_line_feed}
use Rattle.pc_lexer.specs.Bytes.{is_blank, is_letter, is_digit, is_word_byte}
use Rattle.pc_lexer.specs.Spelling.{mark_spelling, mark_at}
use Rattle.pc_lexer.specs.Number.{number_length, number_value}
use Rattle.pc_lexer.specs.declared.mark.Mark.{Mark}
use Rattle.pc_lexer.specs.declared.piece.Shape.{Shape}
use Rattle.pc_lexer.specs.declared.piece.Shape.TheVariants as shape
use Rattle.pc_lexer.specs.declared.piece.Piece.{Piece}
use Rattle.pc_lexer.specs.declared.piece.Trouble.{Trouble}
use Rattle.pc_lexer.specs.declared.piece.Trouble.TheVariants as trouble

-- the piece of this shape and of n bytes
abbrev pub piece_of : Shape → ℕ → Piece
piece_of shape n = record { shape = shape; length = n }

-- how many bytes these have up to the end of their line, its line feed left out
abbrev pub line_length : List ℕ → ℕ
line_length bytes = prefix_len (λ b. not (is_line_feed b)) bytes

-- how many bytes these have up to the end of the first `*/`, if there is one; star says whether a `*` stands before them
unfoldable pub comment_length : Bool → List ℕ → Option ℕ
comment_length star [] = None
comment_length star (b ∷ bytes) =
    if star && b == 47 then Some 1 else option_map suc (comment_length (b == 42) bytes)

-- the blanks that may stand between `#` and `include`
abbrev pub is_inner_blank : ℕ → Bool
is_inner_blank b = is_blank b && not (is_line_feed b)

-- whether a word goes on with these bytes
abbrev pub goes_on : List ℕ → Bool
goes_on [] = false
goes_on (b ∷ bytes) = is_word_byte b

-- how many bytes after a `#` are skipped: blanks, the whole word `include` and the rest of the line
unfoldable pub include_length : List ℕ → Option ℕ
include_length bytes =
    let blanks = prefix_len is_inner_blank bytes in
    let word = drop blanks bytes in
    if starts_with nat_eq word (codes "include") && not (goes_on (drop 7 word))
    then Some (blanks + 7 + line_length (drop 7 word)) else None

-- a piece of n bytes, where there is one, or the trouble
abbrev pub piece_or : Trouble → Shape → Option ℕ → Result Piece Trouble
piece_or why shape None = Err why
piece_or why shape (Some n) = Ok (piece_of shape n)

-- a comment up to its `*/`, or one that stays open
unfoldable pub block_comment_at : List ℕ → Result Piece Trouble
block_comment_at text = piece_or trouble.OpenComment shape.Comment (option_map (λ n. 2 + n) (comment_length false (drop 2 text)))

-- the line that is skipped from a `#` on, or a bad `#`
unfoldable pub skipped_line_at : List ℕ → Result Piece Trouble
skipped_line_at text = piece_or trouble.NoPiece shape.Skipped (option_map (λ n. 1 + n) (include_length (drop 1 text)))

-- a number of n bytes with that value, or one that is misspelt
abbrev pub number_piece : ℕ → Option ℕ → Result Piece Trouble
number_piece n None = Err trouble.Misspelt
number_piece n (Some value) = Ok (piece_of (shape.Number (pos value)) n)

-- a number, the first byte of which is a digit
unfoldable pub number_piece_at : List ℕ → Result Piece Trouble
number_piece_at text =
    let n = 1 + number_length false (drop 1 text) in
    number_piece n (number_value (take n text))

-- a mark, or a byte that begins nothing
abbrev pub mark_piece : Option Mark → Result Piece Trouble
mark_piece None = Err trouble.NoPiece
mark_piece (Some m) = Ok (piece_of (shape.Mark m) (length (mark_spelling m)))

unfoldable pub mark_piece_at : List ℕ → Result Piece Trouble
mark_piece_at text = mark_piece (mark_at text)

-- The piece that begins the text, or why none does. fresh says whether only blanks stand before it in its line.
unfoldable pub piece_at : Bool → List ℕ → Result Piece Trouble
piece_at fresh text =
    let first = slice_index text 0 in
    if is_blank first then Ok (piece_of shape.Blank 1)
    else (if is_letter first then Ok (piece_of shape.Word (prefix_len is_word_byte text))
    else (if is_digit first then number_piece_at text
    else (if first == 35 then (if fresh then skipped_line_at text else Err trouble.NoPiece)
    else (if starts_with nat_eq text (codes "//") then Ok (piece_of shape.Comment (line_length text))
    else (if starts_with nat_eq text (codes "/*") then block_comment_at text
    else mark_piece_at text)))))
