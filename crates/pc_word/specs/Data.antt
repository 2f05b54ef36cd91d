-- The data of arrays: with which words each array begins.
use Rattle.std.specs.Ordering.{int_eq}
use Rattle.std.specs.Prelude.{◌≡◌, ℕ, ℤ, pos, ◌≤◌, Bool, true, false, List, [], ◌∷◌, length, slice_index_or}

-- whether the last of these words is 0
abbrev pub ends_in_zero : List ℤ → Bool
ends_in_zero [] = false
ends_in_zero (word ∷ []) = int_eq word (pos 0)
ends_in_zero (word ∷ next ∷ words) = ends_in_zero (next ∷ words)

-- the data of an array with so many elements has room in it, and does not end in 0
pub record IsData (elements : ℕ) (words : List ℤ) : Type 0 where
  pub fits : length words ≤ elements
  pub tail : ends_in_zero words ≡ false

-- one list of words for each array, which is its data
abbrev pub AreData : List ℕ → List (List ℤ) → Type 0
AreData [] [] = Unit {0}
AreData (elements ∷ arrays) (words ∷ initial) = IsData elements words × AreData arrays initial
AreData _ _ = ⊥

-- whether no array has data
abbrev pub has_no_data : List (List ℤ) → Bool
has_no_data [] = true
has_no_data ([] ∷ initial) = has_no_data initial
has_no_data ((word ∷ words) ∷ initial) = false

-- the elements with which a run starts, by array and place: the data of each array, and then 0
abbrev pub first_cells : List (List ℤ) → ℕ → ℕ → ℤ
first_cells initial array place = slice_index_or (slice_index_or initial array []) place (pos 0)
