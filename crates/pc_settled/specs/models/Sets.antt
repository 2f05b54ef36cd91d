-- Sets of registers, as they stand in memory.
use Rattle.std.specs.Prelude.{ℕ, ◌-◌, Bool, if◌then◌else◌, nat_eq, nat_lt, List, slice_index_or}
use Rattle.std.specs.Int.{bit_at}
use Rattle.pc_settled.specs.declared.register_set.RegisterSet.{RegisterSet}

-- whether a register is in a set: its bit is 1
unfoldable pub member : RegisterSet → ℕ → Bool
member set register = if nat_lt register 128 then nat_eq (bit_at set.low register) 1 else nat_eq (bit_at set.high (register - 128)) 1

-- the set of no register
abbrev pub no_register : RegisterSet
no_register = record { low = 0; high = 0 }

-- the set that is listed for a row
abbrev pub set_at : List RegisterSet → ℕ → RegisterSet
set_at sets number = slice_index_or sets number no_register
