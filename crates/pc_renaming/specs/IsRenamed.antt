-- When a code does another code with other registers.
use Rattle.std.specs.Prelude.{ℕ, ◌≡◌, ◌≤◌, List, length, Some, slice_get}
use Rattle.pc_machine.specs.MachineCode.{CodeRow, RowCode}
use Rattle.pc_renaming.specs.Renaming.{Renaming, all_before, none_written}
use Rattle.pc_renaming.specs.RowRenames.{RowRenames}

-- a row of the code after, with this number, does the row of the code before that it is said to do
abbrev pub DoesItsOrigin : ℕ → Renaming → List CodeRow → ℕ → ℕ → CodeRow → Type 0
DoesItsOrigin registers renaming before rows number row =
    (origin : CodeRow) × (slice_get before (renaming.origin number) ≡ Some origin)
    × RowRenames registers rows renaming (renaming.holds number) all_before none_written origin row

-- rows with so many registers do others: there is an entry, which does the entry, and each row does its origin
pub record AreRenamed (registers : ℕ) (renaming : Renaming) (before after : List CodeRow) : Type 0 where
  pub entry : 1 ≤ length after
  pub first : renaming.origin 0 ≡ 0
  pub each : (number : ℕ) (row : CodeRow) → slice_get after number ≡ Some row
      → DoesItsOrigin registers renaming before (length after) number row

-- the code after has the limits, registers, arrays and data of the code before, and its rows do those of the code before
pub record IsRenamed (renaming : Renaming) (before after : RowCode) : Type 0 where
  pub limits : after.limits ≡ before.limits
  pub registers : after.registers ≡ before.registers
  pub arrays : after.arrays ≡ before.arrays
  pub initial : after.initial ≡ before.initial
  pub rows : AreRenamed before.registers renaming before.rows after.rows
