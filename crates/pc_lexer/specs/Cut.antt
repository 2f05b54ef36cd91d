-- A whole text cut into pieces.
use Rattle.std.specs.Prelude.{ℕ, zero, suc, ◌+◌, ◌-◌, Bool, true, ◌&&◌, ◌||◌, List, [], ◌∷◌, ◌++◌, Ok, Err, take}
use Rattle.pc_word.specs.Line.{is_line_feed}
use Rattle.pc_lexer.specs.Bytes.{is_blank, line_feeds}
use Rattle.pc_lexer.specs.Piece.{piece_at}
use Rattle.pc_lexer.specs.declared.piece.Shape.{Shape}
use Rattle.pc_lexer.specs.declared.piece.Trouble.{Trouble}

-- whether bytes leave a line that has only blanks so far, where fresh says so of the line that they go on with
unfoldable pub fresh_after : Bool → List ℕ → Bool
fresh_after fresh [] = fresh
fresh_after fresh (b ∷ bytes) = fresh_after (is_line_feed b || fresh && is_blank b) bytes

-- the line in which a text goes on after these bytes, counted from 1
abbrev pub line_behind : List ℕ → ℕ
line_behind before = 1 + line_feeds before

-- The pieces of a text in order, each with what stands before it and its spelling, up to the end or to
-- the first place at which none begins. There `rest` is what is left.
pub data Cut : Type 0 where
  Done : Cut
  Next : (before spelling : List ℕ) (shape : Shape) (others : Cut) → Cut
  Stuck : (before rest : List ℕ) (why : Trouble) → Cut

-- Cuts bytes after others. The first `inside` of them belong to a piece that began before.
unfoldable pub cut : List ℕ → ℕ → List ℕ → Cut
cut [] inside before = Done
cut (b ∷ bytes) (suc inside) before = cut bytes inside (before ++ b ∷ [])
cut (b ∷ bytes) zero before =
    elim (piece_at (fresh_after true before) (b ∷ bytes)) [
      | Ok piece ↦ Next before (take piece.length (b ∷ bytes)) piece.shape (cut bytes (piece.length - 1) (before ++ b ∷ []))
      | Err why ↦ Stuck before (b ∷ bytes) why
    ]

-- the whole text
abbrev pub pieces_of : List ℕ → Cut
pieces_of text = cut text 0 []
