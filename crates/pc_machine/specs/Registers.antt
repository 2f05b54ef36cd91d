-- How many registers a machine has.
use Rattle.std.specs.Prelude.{◌≡◌, ℕ, ◌⊎◌}

-- the fewer registers, and the most
abbrev pub few_registers : ℕ
few_registers = 128

abbrev pub most_registers : ℕ
most_registers = 256

-- a machine has either as many, numbered from 0
abbrev pub IsRegisterCount : ℕ → Type 0
IsRegisterCount registers = (registers ≡ few_registers) ⊎ (registers ≡ most_registers)
