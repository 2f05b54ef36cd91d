-- What is told beside a code whose rows do the rows of another code with other registers.
use Rattle.std.specs.Prelude.{ℕ, Bool, Option, Some, if◌then◌else◌, nat_eq, ◌||◌, ◌≡◌, false}
use Rattle.pc_renaming.specs.declared.kept.Kept.{Kept}
use Rattle.pc_renaming.specs.declared.kept.Kept.TheVariants.{Before, Was, Made, Lost}

-- for each row of the code after: the row of the code before that it does; and the register that has, when it begins, the
-- value of a register of the code before, for each whose value is needed from there on
pub record Renaming : Type 0 where
  pub origin : ℕ → ℕ
  pub holds : ℕ → ℕ → Option ℕ

-- ---- on the way down a row

-- when a row begins no register is written
abbrev pub all_before : ℕ → Kept
all_before register = Before

-- where the values of registers stand, once one of them has a value that stands there
abbrev pub with_kept : ℕ → Kept → (ℕ → Kept) → ℕ → Kept
with_kept dest stands kept register = if nat_eq dest register then stands else kept register

-- no register of the code after is written
abbrev pub none_written : ℕ → Bool
none_written register = false

-- the registers of the code after that are written, with one more
abbrev pub with_written : ℕ → (ℕ → Bool) → ℕ → Bool
with_written made written register = nat_eq made register || written register

-- a value that stands so, of a register of the code before, is in a register of the code after once the row is done, where
-- `home` tells which register had the value before the row
abbrev pub StandsIn : (ℕ → Option ℕ) → (ℕ → Bool) → ℕ → ℕ → Kept → Type 0
StandsIn home written register place Before = (home register ≡ Some place) × (written place ≡ false)
StandsIn home written register place (Was other) = (other ≡ place) × (written place ≡ false)
StandsIn home written register place (Made other) = other ≡ place
StandsIn home written register place Lost = ⊥
