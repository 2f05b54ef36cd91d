-- Lines of text.
use Rattle.std.specs.Prelude.{ℕ, Bool, ◌==◌, List, [], ◌∷◌, ◌++◌}

-- a text and a line feed after it
abbrev pub line : List ℕ → List ℕ
line text = text ++ 10 ∷ []

-- whether a byte is a line feed
abbrev pub is_line_feed : ℕ → Bool
is_line_feed byte = byte == 10
