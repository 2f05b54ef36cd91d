-- Numbers in bytes, those from -64 to 63 in one each. No two lists of numbers have the same bytes.
use Rattle.std.specs.Prelude.{ℕ, zero, suc, ◌+◌, ◌*◌, ◌/◌, ◌%◌, ℤ, pos, negsuc, if◌then◌else◌, nat_lt, List, [], ◌∷◌, ◌++◌}

-- a number as a natural one: 0, -1, 1, -2, 2, .. are 0, 1, 2, 3, 4, ..
abbrev pub zigzag : ℤ → ℕ
zigzag (pos n) = 2 * n
zigzag (negsuc n) = 2 * n + 1

-- the digits of a natural number in base 128, the lowest first, with 128 added to all but the last, where at most so many stand before the last
abbrev pub digits_within : ℕ → ℕ → List ℕ
digits_within zero n = n ∷ []
digits_within (suc more) n = if nat_lt n 128 then n ∷ [] else (128 + n % 128) ∷ digits_within more (n / 128)

-- the bytes of a natural number: its digits, which are at most as many as it counts, and one
unfoldable pub natural_bytes : ℕ → List ℕ
natural_bytes n = digits_within n n

-- the bytes of a number
abbrev pub number_bytes : ℤ → List ℕ
number_bytes z = natural_bytes (zigzag z)

-- the bytes of numbers, one after the other
abbrev pub bytes_of : List ℤ → List ℕ
bytes_of [] = []
bytes_of (z ∷ zs) = number_bytes z ++ bytes_of zs
