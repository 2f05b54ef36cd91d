-- For each row the list of those that lead to it, as it grows.
use Rattle.std.specs.Prelude.{◌≡◌, ℕ, ◌-◌, ◌<◌, Bool, false, nat_eq, if◌then◌else◌, List, [], ◌∷◌, ◌++◌, length}
use Rattle.std.specs.Prelude.{Option, Some, None, slice_get}
use Rattle.pc_machine.specs.MachineCode.{CodeRow}
use Rattle.pc_view.specs.Leading.{rows_leading_to}

-- whether this is the number
abbrev pub is_number : ℕ → Option ℕ → Bool
is_number number (Some last) = nat_eq last number
is_number number None = false

-- a list with a number after it, unless it is the last one there
abbrev pub noted : ℕ → List ℕ → List ℕ
noted number list = if is_number number (slice_get list (length list - 1)) then list else list ++ number ∷ []

-- so where something is to be noted
abbrev pub noted_where : Bool → ℕ → List ℕ → List ℕ
noted_where here number list = if here then noted number list else list

-- each row has the list of those that lead to it, of these rows
pub record AreLists (many : ℕ) (rows : List CodeRow) (lists : List (List ℕ)) : Type 0 where
  pub count : length lists ≡ many
  pub each : (target : ℕ) → target < many → slice_get lists target ≡ Some (rows_leading_to target 0 rows)
