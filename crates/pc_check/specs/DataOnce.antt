-- That lists are the data of arrays has one proof at most, so a checked program can keep it as a ghost field.
use Rattle.std.specs.Prelude.{ℕ, ℤ, false, List, [], ◌∷◌}
use Rattle.std.specs.Coded.{Coded-set, coded_bool, ×_prop, Unit-prop, le_prop}
use Rattle.pc_word.specs.Data.{ends_in_zero, IsData, AreData}

-- the data of one array
is_data_once : (elements : ℕ) (words : List ℤ) → IsProp (IsData elements words)
is_data_once elements words x y i = record {
  fits = le_prop x.fits y.fits i;
  tail = Coded-set coded_bool (ends_in_zero words) false x.tail y.tail i;
}

-- the data of all arrays
pub data_once : (arrays : List ℕ) (initial : List (List ℤ)) → IsProp (AreData arrays initial)
data_once [] [] = Unit-prop
data_once (elements ∷ arrays) (words ∷ initial) = ×_prop (is_data_once elements words) (data_once arrays initial)
data_once [] (words ∷ initial) = λ x y. absurd x
data_once (elements ∷ arrays) [] = λ x y. absurd x
