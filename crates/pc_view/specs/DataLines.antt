-- The words with which arrays begin, a line each.
use Rattle.std.specs.Prelude.{ℕ, suc, ℤ, List, [], ◌∷◌, ◌++◌, codes}
use Rattle.std.specs.Fmt.{decimal, signed_decimal}

-- an element and its word
unfoldable pub data_line : ℕ → ℕ → ℤ → List ℕ
data_line array place word =
    codes "    a" ++ (decimal array ++ (codes "[" ++ (decimal place ++ (codes "] = " ++ signed_decimal word))))

-- the words of an array, from a place on
abbrev pub data_lines : ℕ → ℕ → List ℤ → List (List ℕ)
data_lines array place [] = []
data_lines array place (word ∷ words) = data_line array place word ∷ data_lines array (suc place) words

-- those of each array, numbered from `array` on
abbrev pub all_data_lines : ℕ → List (List ℤ) → List (List ℕ)
all_data_lines array [] = []
all_data_lines array (words ∷ initial) = data_lines array 0 words ++ all_data_lines (suc array) initial
