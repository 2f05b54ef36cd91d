-- The numbers that stand in bytes.
use Rattle.std.specs.Prelude.{ℕ, ◌+◌, ◌-◌, ◌*◌, ◌/◌, ◌%◌, ℤ, pos, negsuc, if◌then◌else◌, nat_eq, nat_lt, List, [], ◌∷◌}

-- the number that a natural one stands for
abbrev pub unzigzag : ℕ → ℤ
unzigzag n = if nat_eq (n % 2) 0 then pos (n / 2) else negsuc (n / 2)

-- the numbers in bytes, where the digits so far come to a sum and the next one counts so many times
abbrev pub numbers_from : ℕ → ℕ → List ℕ → List ℤ
numbers_from sum times [] = []
numbers_from sum times (byte ∷ bytes) =
    if nat_lt byte 128 then unzigzag (sum + times * byte) ∷ numbers_from 0 1 bytes else numbers_from (sum + times * (byte - 128)) (times * 128) bytes

-- the numbers in bytes
unfoldable pub numbers_in : List ℕ → List ℤ
numbers_in bytes = numbers_from 0 1 bytes
