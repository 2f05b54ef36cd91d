-- The data of arrays, by the constants of their initialisers.
use Rattle.std.specs.Ordering.{int_eq}
use Rattle.std.specs.Prelude.{ℤ, pos, List, [], ◌∷◌, map, if◌then◌else◌}
use Rattle.pc_syntax.specs.declared.constant.Const.{Const}

-- a word and those after it; a 0 with none after it is left out
abbrev pub word_before : ℤ → List ℤ → List ℤ
word_before word [] = if int_eq word (pos 0) then [] else word ∷ []
word_before word (next ∷ words) = word ∷ next ∷ words

-- these words without the zeros at their end
abbrev pub without_last_zeros : List ℤ → List ℤ
without_last_zeros [] = []
without_last_zeros (word ∷ words) = word_before word (without_last_zeros words)

-- the values of these constants
abbrev pub values_of : List Const → List ℤ
values_of constants = map (λ (constant : Const). constant.value) constants

-- The data of an array that is initialised with these constants: their values in order. The elements after them are 0
-- (C17 6.7.9), so zeros at the end are left out, and an array without initialiser has no data.
unfoldable pub data_of : List Const → List ℤ
data_of constants = without_last_zeros (values_of constants)
